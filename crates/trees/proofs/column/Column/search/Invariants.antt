-- The column holds a front before each turn (`Growing`); each turn settles one router more at least, so the loop ends.
use Rattle.std.proofs.Common.{◌-◌}
use Rattle.area.specs.Limits.{width}
use Rattle.sets.specs.Counts.{size}
use Rattle.trees.proofs.Growing.{Growing}
use Rattle.trees.proofs.column.Column.search.Given as goal

abbrev pub invariant-loop-reached : goal.invariant-loop-reached
invariant-loop-reached l =
    Growing l.links.n l.links.metric.now l.d l.self.dist l.self.hops l.settled l.reached

abbrev pub decreases-loop-reached : goal.decreases-loop-reached
decreases-loop-reached l = width - size width l.settled
