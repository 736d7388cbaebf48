-- The parts are those of the record.
use Rattle.needs.proofs.needs.Goals as goal

pub returns : goal.returns
returns c = record { count = c.needs.ensures.count c.args.fresh }
