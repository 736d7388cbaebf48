-- The routers below i were looked at.
use Rattle.std.proofs.Common.{◌≡◌, ltb}
use Rattle.area.specs.Limits.{unused}
use Rattle.sets.specs.Sets.{set_of}
use Rattle.topology.specs.Topology.{topology}
use Rattle.trees.proofs.links.links_to.Given as goal

abbrev pub invariant-loop-i : goal.invariant-loop-i
invariant-loop-i l = l.found ≡ set_of l.i (λ k. ltb (topology l.n l.metric k l.q) unused)
