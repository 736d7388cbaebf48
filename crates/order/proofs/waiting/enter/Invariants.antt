-- The members that have come have s in their entry.
use Rattle.area.specs.Limits.{width}
use Rattle.order.proofs.EnteringLaws.{Entering}
use Rattle.order.proofs.waiting.enter.Given as goal

abbrev pub invariant-loop-r : goal.invariant-loop-r
invariant-loop-r l = Entering width l.n l.s l.yielded l.fn.out l.out
