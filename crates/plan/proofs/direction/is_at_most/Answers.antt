-- Both usable metrics are those of the topologies.
use Rattle.std.proofs.Common.{ap₂, ◌∙◌, leb, arith}
use Rattle.topology.proofs.TopologyLaws.{usable_is}
use Rattle.plan.proofs.direction.is_at_most.Goals as goal

pub returns : goal.returns
returns c =
    let a = c.args in
    ap₂ leb
    (c.usable.ensures.answer ∙ usable_is a.n a.less.now a.i a.j (omega arith) (omega arith))
    (c.usable-2.ensures.answer ∙ usable_is a.n a.more.now a.i a.j (omega arith) (omega arith))
