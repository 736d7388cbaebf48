-- The changes that the iterator has given are made.
use Rattle.entries.proofs.EachLaws.{Visits}
use Rattle.plan.proofs.Applying.{Applied}
use Rattle.plan.proofs.metrics.apply.Given as goal

abbrev pub invariant-loop-change : goal.invariant-loop-change
invariant-loop-change l = record {
  visits : Visits l.list l.change-iterator;
  applied : Applied l.n l.old l.list l.change-iterator.next l.new;
}
