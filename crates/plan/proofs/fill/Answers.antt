-- The record is the one that the root, the direction and the tables give, which `topologies` leaves.
use Rattle.std.proofs.Common.{◌∙◌, arith}
use Rattle.plan.specs.Plan.{tables_held}
use Rattle.plan.specs.Parts.{is_rising}
use Rattle.plan.proofs.FreshLaws.{plan_root}
use Rattle.plan.proofs.Recording.{fresh_is}
use Rattle.plan.proofs.fill.Goals as goal

pub fresh-requires : goal.fresh-requires
fresh-requires c =
    let change = c.args.change in
    let p = c.requires.plan in
    let root_in = plan_root change.n change.metrics.now change.list.now p in
    (p.ready.most, omega (arith, root_in, p.ready.most, c.requires.judged.0))

pub returns-clause-value : goal.returns-clause-value
returns-clause-value c =
    let change = c.args.change in
    let judged = c.args.judged in
    let p = c.requires.plan in
    let root_in = plan_root change.n change.metrics.now change.list.now p in
    let after = c.topologies.new in
    c.fresh.ensures
    ∙ fresh_is change.n change.hold_time change.step_time change.metrics.now change.list.now p.ready.most root_in
    judged.root (is_rising judged.direction) (tables_held after.metrics after.old after.new) c.requires.judged.0
    c.requires.judged.1 c.topologies.ensures.left_value
