-- What the functions of src/ promise of the parts of a text, and what their lines ask for.
--     opening                      the calls before the turns of a sheet
--     step_bytes, Within           the steps of a file, by where they are
--     Full, Counted, Ready         what is known of the tables, of the calls of a sheet, and of all that is printed
--     lines_by, text_by            the lines of each text, and all of it
use Rattle.std.specs.Prelude.{ℕ, ◌+◌, ◌*◌, ◌≤◌, ◌≡◌, List, ◌++◌, length, take, drop, Result, Ok, Err}
use Rattle.area.specs.Limits.{width, longest_time, most_steps}
use Rattle.area.specs.declared.refusal.Refusal.{Refusal}
use Rattle.area.specs.Refusals.{refusal_number}
use Rattle.paths.specs.Paths.{PathTables}
use Rattle.plan.specs.declared.Record.{Record}
use Rattle.machine.specs.Machine.{learn_kind, release_kind}
use Rattle.machine.specs.Run.{Call, call, ticks}
use Rattle.needs.specs.Needs.{needs}
use Rattle.sheet.specs.Follow.{call_each, sheet_calls}
use Rattle.bench_file.specs.declared.Section.{Section}
use Rattle.text.specs.Text.{refused_line}
use Rattle.prepare.specs.declared.Start.{Start}
use Rattle.report.specs.declared.Text.{Text}
use Rattle.report.specs.declared.Text.TheVariants.{Rehearsal, Routes, SheetTurns, SheetSteps, Unfinished}
use Rattle.report.specs.Lines.{rehearsal_lines, routes_lines, sheet_lines, step_section}
use Rattle.report.specs.Lines.{unfinished_after}

-- all routers learn, the hold time goes by, and all are released
abbrev pub opening : (n hold : ℕ) → List Call
opening n hold =
    call_each n (λ x. call learn_kind x 0) ++ (ticks hold ++ call_each n (λ x. call release_kind x 0))

-- the steps of a file, by where they are
abbrev pub step_bytes : (f : List ℕ) (s : Section) → List ℕ
step_bytes f s = take (3 * s.count) (drop s.at f)

-- the steps lie in the file
abbrev pub Within : (f : List ℕ) (s : Section) → Type 0
Within f s = s.at + 3 * s.count ≤ length f

-- the tables that are printed have all cells
pub record Full (before after : PathTables) : Type 0 where
  pub old_distances : length before.distances ≡ width * width
  pub old_hops : length before.hops ≡ width * width
  pub new_distances : length after.distances ≡ width * width
  pub new_hops : length after.hops ≡ width * width

-- the calls by which a sheet is followed are as many as the change needs, and a tick for each of the hold time
abbrev pub Counted : (r : Record) → Type 0
Counted r = r.hold_time ≤ longest_time → needs r + r.hold_time ≡ length (sheet_calls r)

-- the routers and the steps are few enough, the calls that follow the sheet are counted, and the tables have all cells
pub record Ready (r : Record) (bytes : List ℕ) (before after : PathTables) : Type 0 where
  pub few : r.n ≤ width
  pub most : length bytes ≤ 3 * most_steps
  pub counted : Counted r
  pub full : Full before after

-- the lines of each text, by the record, the bytes of the steps and the tables before the change and after it
abbrev pub lines_by : (text : Text) (r : Record) (bytes : List ℕ) (before after : PathTables) → List ℕ
lines_by Rehearsal r bytes t u = rehearsal_lines r bytes
lines_by Routes r bytes t u = routes_lines t.distances t.hops u.distances u.hops r.n
lines_by SheetTurns r bytes t u = sheet_lines r
lines_by SheetSteps r bytes t u = step_section (sheet_calls r)
lines_by Unfinished r bytes t u = unfinished_after r bytes

-- the text of a file by what `prepare` answers, and by the tables
abbrev pub text_by : (text : Text) (f : List ℕ) (start : Result Start Refusal) (before after : PathTables) → List ℕ
text_by text f (Ok x) t u = lines_by text x.record (step_bytes f x.steps) t u
text_by text f (Err why) t u = refused_line (refusal_number why)
