-- The rows before i are copied.
use Rattle.plan.proofs.Copying.{Rows}
use Rattle.plan.proofs.metrics.copy.Given as goal

abbrev pub invariant-loop-i : goal.invariant-loop-i
invariant-loop-i l = Rows l.n l.old l.i l.new
