use Rattle.report.proofs.CallLineLaws.{one_written, each_start, each_next}
use Rattle.report.proofs.step_section.router_calls.Goals as goal

pub loop-x-init : goal.loop-x-init
loop-x-init c = each_start _ _

pub loop-x-preserved : goal.loop-x-preserved
loop-x-preserved c = each_next _ _ c.loop-x.invariant (one_written _ c.call_line.ensures.line)
