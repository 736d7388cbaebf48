-- The rows hold a front before each turn (`Settling`); each turn settles one router more, so the loop ends.
use Rattle.std.proofs.Common.{◌-◌}
use Rattle.area.specs.Limits.{width}
use Rattle.search.proofs.Dijkstra.{count}
use Rattle.search.proofs.Settling.{Settling}
use Rattle.search.proofs.settle.Given as goal

abbrev pub invariant-loop-q : goal.invariant-loop-q
invariant-loop-q l = Settling l.n l.metric l.source l.dist l.hops l.settled

abbrev pub decreases-loop-q : goal.decreases-loop-q
decreases-loop-q l = width - count l.settled l.n
