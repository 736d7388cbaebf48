-- A turn offers where there is a link, and changes nothing where there is none.
use Rattle.std.proofs.Common.{arith, rules, ◌∙◌}
use Rattle.topology.proofs.TopologyLaws.{usable_is}
use Rattle.search.proofs.Relaxing.{relaxing_begin, relaxing_link, relaxing_none, relaxing_end}
use Rattle.search.proofs.relax.Goals as goal

pub loop-j-init : goal.loop-j-init
loop-j-init c = relaxing_begin _ _ _ _ _ _

pub loop-j-preserved : goal.loop-j-preserved
loop-j-preserved c =
    let a = c.args in
    let is_metric =
    c.usable-m.ensures.answer ∙ usable_is a.n a.metric.now a.q c.loop-j.j (omega arith) (omega arith) in
    let link =
    relaxing_link a.n a.metric.now a.source a.q a.dist.now a.hops.now c.loop-j.dist c.loop-j.hops
    c.loop-j.j c.usable-m.result c.loop-j.invariant is_metric in
    let none =
    relaxing_none a.n a.metric.now a.source a.q a.dist.now a.hops.now c.loop-j.dist c.loop-j.hops
    c.loop-j.j c.usable-m.result c.loop-j.invariant is_metric in
    grind (arith, link, none)

pub returns : goal.returns
returns c = search (rules, relaxing_end)
