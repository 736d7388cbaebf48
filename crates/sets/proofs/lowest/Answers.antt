-- The machine counts the zeros below the lowest digit 1.
use Rattle.area.specs.Limits.{width}
use Rattle.sets.proofs.VisitLaws.{trailing_is}
use Rattle.sets.proofs.lowest.Goals as goal

pub returns : goal.returns
returns c = record { member = trailing_is width c.args.s }
