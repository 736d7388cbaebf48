-- How many bytes are printed for a file at most: a program whose buffer has as many prints the whole of it. A refusal
-- is one short line. Otherwise a file has at most `width` routers and `most_steps` steps, and LengthLaws bounds the
-- lines of each; `end` is the last one of a rehearsal and of the turns.
-- So many bytes are specs/Rooms.antt.
--     text_room                                  no text has more
--     rehearsal_room_lem, routes_room_lem, sheet_turns_room_lem, sheet_steps_room_lem, unfinished_room_lem
--                                                the same of each text
use Rattle.std.specs.Prelude.{ℕ, ◌*◌, ◌≤◌, ◌≡◌, List, length, drop}
use Rattle.std.proofs.Math.Decide.{ℕ_discrete}
use Rattle.std.proofs.Common.{arith, length-append, length-take}
use Rattle.area.specs.Limits.{width}
use Rattle.area.proofs.SizeLaws.{router_count_most}
use Rattle.plan.specs.Plan.{Tables}
use Rattle.plan.proofs.FreshLaws.{fresh_count}
use Rattle.machine.specs.Run.{run, replies, calls_of}
use Rattle.machine.proofs.CallLaws.{replies_many}
use Rattle.needs.specs.Needs.{needs, missing}
use Rattle.sheet.specs.Sheet.{sheet_of}
use Rattle.sheet.specs.Follow.{sheet_calls}
use Rattle.bench_file.specs.declared.Format.TheVariants.{New}
use Rattle.bench_file.specs.Sections.{routers, changes, hold_time, step_time, step_count, steps_at, steps}
use Rattle.text.specs.Text.{word}
use Rattle.text.proofs.TextLaws.{line_most}
use Rattle.prepare.specs.Bench.{metrics, refusal, planned, filled_tables}
use Rattle.prepare.proofs.BenchLaws.{file_of_lem}
use Rattle.report.specs.declared.Text.{Text}
use Rattle.report.specs.declared.Text.TheVariants.{Rehearsal, Routes, SheetTurns, SheetSteps, Unfinished}
use Rattle.report.proofs.LengthLaws.{routers_most, steps_most, routes_most, turns_most, section_most}
use Rattle.report.proofs.LengthLaws.{unfinished_lines_most}
use Rattle.report.specs.Report.{rehearsal, routes, sheet_turns, sheet_steps, unfinished, text_of}
use Rattle.report.specs.Rooms.{rehearsal_room, routes_room, sheet_turns_room, sheet_steps_room, unfinished_room}
use Rattle.report.specs.Rooms.{room_of}
use Rattle.report.proofs.ReportLaws.{text_refused, rehearsal_whole, routes_whole}
use Rattle.report.proofs.ReportLaws.{sheet_turns_whole, sheet_steps_whole, unfinished_whole}

module _ (f m : List ℕ) (t : Tables) where
  -- each has room for the line of a refusal
  refusal_room : (text : Text) → 29 ≤ room_of text
  refusal_room Rehearsal = omega arith
  refusal_room Routes = omega arith
  refusal_room SheetTurns = omega arith
  refusal_room SheetSteps = omega arith
  refusal_room Unfinished = omega arith

  -- and for the lines of a file that is not refused
  module _ (z : refusal f m t ≡ 0) where
    few : routers f ≤ width
    few = router_count_most (routers f) (file_of_lem f m t z).routers_in

    many : (planned f).n ≡ routers f
    many = fresh_count (routers f) (hold_time New f) (step_time New f) (metrics f) (changes f)

    lines_room : (text : Text) → length (text_of text f m t) ≤ room_of text
    lines_room Rehearsal =
        let of-routers = routers_most (planned f) (planned f).n in
        let of-needs = line_most (word "needs ") (needs (planned f)) in
        let of_steps = steps_most 1 (replies (planned f) (calls_of (steps New f))) in
        let answers = replies_many (planned f) (steps New f) in
        let bytes = length-take (3 * step_count New f) (drop (steps_at New f) f) in
        rw (rehearsal_whole f m t z)
        (simp length-append (omega (arith, few, many, (file_of_lem f m t z).most_steps_lem)))
    lines_room Routes =
        let p = filled_tables f in
        let n = routers f in
        let most = routes_most p.old.distances p.old.hops p.new.distances p.new.hops n n few in
        rw (routes_whole f m t z) (simp length-append (omega (arith, few)))
    lines_room SheetTurns =
        let turns = turns_most (planned f) (sheet_of (planned f)) (planned f).n in
        rw (sheet_turns_whole f m t z) (simp length-append (omega (arith, few, many)))
    lines_room SheetSteps = rw (sheet_steps_whole f m t z) (omega (arith, section_most (sheet_calls (planned f))))
    lines_room Unfinished =
        let last = run (planned f) (calls_of (steps New f)) in
        let lines = unfinished_lines_most last (planned f).n in
        let of-missing = line_most (word "missing ") (missing last) in
        rw (unfinished_whole f m t z) (simp length-append (omega (arith, few, many)))

  pub text_room : (text : Text) → length (text_of text f m t) ≤ room_of text
  text_room text = by_refusal (ℕ_discrete (refusal f m t) 0)
    where
      by_refusal : Dec (refusal f m t ≡ 0) → length (text_of text f m t) ≤ room_of text
      by_refusal (no g) =
          rw (text_refused f m t text g)
          (omega (arith, line_most (word "refused ") (refusal f m t), refusal_room text))
      by_refusal (yes z) = lines_room z text

  pub rehearsal_room_lem : length (rehearsal f m t) ≤ rehearsal_room
  rehearsal_room_lem = text_room Rehearsal

  pub routes_room_lem : length (routes f m t) ≤ routes_room
  routes_room_lem = text_room Routes

  pub sheet_turns_room_lem : length (sheet_turns f m t) ≤ sheet_turns_room
  sheet_turns_room_lem = text_room SheetTurns

  pub sheet_steps_room_lem : length (sheet_steps f m t) ≤ sheet_steps_room
  sheet_steps_room_lem = text_room SheetSteps

  pub unfinished_room_lem : length (unfinished f m t) ≤ unfinished_room
  unfinished_room_lem = text_room Unfinished
