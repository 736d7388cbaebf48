-- All that is printed for a bench file f. m and t are the tables that are lent: what they hold is not printed, but a
-- wrong size is refused.
use Rattle.std.specs.Prelude.{ℕ, List, eqb}
use Rattle.area.specs.Tests.{pick}
use Rattle.plan.specs.Plan.{Tables}
use Rattle.bench_file.specs.declared.Format.TheVariants.{New}
use Rattle.bench_file.specs.Sections.{routers, steps}
use Rattle.sheet.specs.Follow.{sheet_calls}
use Rattle.text.specs.Text.{refused_line}
use Rattle.prepare.specs.Bench.{refusal, planned, filled_tables}
use Rattle.report.specs.declared.Text.{Text}
use Rattle.report.specs.declared.Text.TheVariants.{Rehearsal, Routes, SheetTurns, SheetSteps, Unfinished}
use Rattle.report.specs.Lines.{rehearsal_lines, routes_lines, sheet_lines, unfinished_after, step_section}

-- the line of the refusal where there is one, and these lines where there is none
abbrev pub unless_refused : (number : ℕ) (lines : List ℕ) → List ℕ
unless_refused number lines = pick (eqb number 0) lines (refused_line number)

-- The rehearsal: the refusal alone, or a line for each router, one for what the change needs, a line for each step, and
-- an end (01, "The rehearsal"; 02, No. 8).
unfoldable pub rehearsal : (f m : List ℕ) (t : Tables) → List ℕ
rehearsal f m t = unless_refused (refusal f m t) (rehearsal_lines (planned f) (steps New f))

-- The routes: the refusal alone, or that the sets are full ones, and the lines of all pairs (our own,
-- docs/DECISIONS.md).
unfoldable pub routes : (f m : List ℕ) (t : Tables) → List ℕ
routes f m t =
    let p = filled_tables f in
    unless_refused (refusal f m t)
    (routes_lines p.old.distances p.old.hops p.new.distances p.new.hops (routers f))

-- The running sheet: the refusal alone, or a line for each turn, and an end (02, No. 1; its form is our own).
unfoldable pub sheet_turns : (f m : List ℕ) (t : Tables) → List ℕ
sheet_turns f m t = unless_refused (refusal f m t) (sheet_lines (planned f))

-- The steps of the sheet: the refusal alone, or the calls by which it is followed, to be put into a bench file.
unfoldable pub sheet_steps : (f m : List ℕ) (t : Tables) → List ℕ
sheet_steps f m t = unless_refused (refusal f m t) (step_section (sheet_calls (planned f)))

-- What is left after the last step: the refusal alone, or a line for each router that is not done, and how many answers
-- "ok" are missing (02, No. 8; its form is our own).
unfoldable pub unfinished : (f m : List ℕ) (t : Tables) → List ℕ
unfinished f m t = unless_refused (refusal f m t) (unfinished_after (planned f) (steps New f))

-- each text by its name; `Text` is the enum of src/lib.rt
abbrev pub text_of : (text : Text) (f m : List ℕ) (t : Tables) → List ℕ
text_of Rehearsal = rehearsal
text_of Routes = routes
text_of SheetTurns = sheet_turns
text_of SheetSteps = sheet_steps
text_of Unfinished = unfinished
