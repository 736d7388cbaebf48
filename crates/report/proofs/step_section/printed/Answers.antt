use Rattle.std.proofs.Common.{◌+◌, ◌≡◌, length, arith}
use Rattle.sheet.specs.Follow.{sheet_calls}
use Rattle.report.proofs.CallLineLaws.{section_long, section_whole, places_called}
use Rattle.report.proofs.step_section.printed.Goals as goal

pub returns-then-count-gt-MOST_STEPS : goal.returns-then-count-gt-MOST_STEPS
returns-then-count-gt-MOST_STEPS c =
    let fresh = c.args.fresh.now in
    let counted : c.needs.result + fresh.hold_time ≡ length (sheet_calls fresh) =
    omega (arith, c.needs.ensures.count, c.requires.1 (omega arith)) in
    record { section = section_long _ _ counted c.if-count-gt-MOST_STEPS.true c.line.ensures.appended }

pub returns : goal.returns
returns c =
    let fresh = c.args.fresh.now in
    let counted : c.needs.result + fresh.hold_time ≡ length (sheet_calls fresh) =
    omega (arith, c.needs.ensures.count, c.requires.1 (omega arith)) in
    let calls = places_called fresh _ c.in_turn.ensures.sheet c.sheet_lines.ensures.lines in
    record { section = section_whole _ _ counted c.if-count-gt-MOST_STEPS.false c.count_line.ensures.line calls }
