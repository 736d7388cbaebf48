-- The parts are those of the record.
use Rattle.needs.proofs.missing.Goals as goal

pub returns : goal.returns
returns c = record { count = c.missing.ensures.count c.args.now }
