use Rattle.report.proofs.CallLineLaws.{ticks_start, ticks_next}
use Rattle.report.proofs.step_section.tick_calls.Goals as goal

pub loop-init : goal.loop-init
loop-init c = ticks_start _

pub loop-preserved : goal.loop-preserved
loop-preserved c = ticks_next _ c.loop.invariant c.call_line.ensures.line
