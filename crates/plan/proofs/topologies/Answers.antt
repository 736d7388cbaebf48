-- Paths refuses neither topology, so what it leaves is what is asked for.
use Rattle.paths.specs.Paths.{held}
use Rattle.plan.proofs.Filling.{filled_is}
use Rattle.plan.proofs.topologies.Goals as goal

pub returns-clause-left_value : goal.returns-clause-left_value
returns-clause-left_value c =
    let change = c.args.change in
    let sized = c.requires.sized in
    filled_is change.n change.metrics.now change.list.now c.requires.plan c.apply.ensures.bytes (held c.args.old.now)
    (held c.args.new.now) sized.old sized.new _ _ _ c.apply.ensures.cells c.paths.ensures.tables
    c.paths-2.ensures.tables
