-- The destinations below d were looked at.
use Rattle.std.proofs.Common.{◌≡◌, not, eqb}
use Rattle.area.specs.Limits.{width}
use Rattle.area.specs.Tables.{cell}
use Rattle.sets.specs.Sets.{set_of}
use Rattle.order.proofs.due.changed.Given as goal

abbrev pub invariant-loop-d : goal.invariant-loop-d
invariant-loop-d l = l.found ≡ set_of l.d (λ k. not (eqb (cell width l.old l.r k) (cell width l.new l.r k)))
