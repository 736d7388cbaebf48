use Rattle.report.proofs.CallLineLaws.{opening_called}
use Rattle.report.proofs.step_section.opening_calls.Goals as goal

pub returns : goal.returns
returns c = record {
  lines =
      opening_called c.args.n c.args.hold c.router_calls.ensures.lines c.tick_calls.ensures.lines
      c.router_calls-2.ensures.lines;
}
