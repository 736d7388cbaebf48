use Rattle.std.proofs.Common.{get_or}
use Rattle.report.proofs.CallLineLaws.{sheet_called}
use Rattle.report.proofs.step_section.sheet_lines.Goals as goal

pub returns : goal.returns
returns c = record {
  lines =
      sheet_called c.args.fresh.now (λ k. get_or c.args.places.now k 0) c.opening_calls.ensures.lines
      c.turns_calls.ensures.lines;
}
