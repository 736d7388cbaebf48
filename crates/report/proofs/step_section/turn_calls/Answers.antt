use Rattle.report.proofs.CallLineLaws.{turn_called}
use Rattle.report.proofs.step_section.turn_calls.Goals as goal

pub returns : goal.returns
returns c = record {
  lines =
      turn_called c.args.fresh.now c.args.router _ _ c.entry-writes.ensures.entry c.entry-tells.ensures.entry
      c.member_calls.ensures.lines c.call_line.ensures.line c.member_calls-2.ensures.lines;
}
