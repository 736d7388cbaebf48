-- The routers below s are entered.
use Rattle.std.proofs.Common.{get_or}
use Rattle.area.specs.Limits.{width}
use Rattle.order.proofs.EnteringLaws.{Held}
use Rattle.order.proofs.waiting.converse.Given as goal

abbrev pub invariant-loop-s : goal.invariant-loop-s
invariant-loop-s l = Held width l.n l.s (λ k. get_or l.sets k 0) l.out
