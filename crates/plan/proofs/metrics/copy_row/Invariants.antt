-- The places of the row before k are copied.
use Rattle.plan.proofs.Copying.{Copied}
use Rattle.plan.proofs.metrics.copy_row.Given as goal

abbrev pub invariant-loop-k : goal.invariant-loop-k
invariant-loop-k l = Copied l.start l.k l.old l.fn.new l.new
