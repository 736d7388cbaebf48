-- The sets before place k are cut.
use Rattle.std.proofs.Common.{get_or}
use Rattle.area.specs.Limits.{width}
use Rattle.area.proofs.TableLaws.{Front}
use Rattle.sets.specs.Four.{four}
use Rattle.paths.proofs.cut.Given as goal

abbrev pub invariant-loop-k : goal.invariant-loop-k
invariant-loop-k l = Front l.k (λ i. four width (get_or l.hops i 0)) l.fours
