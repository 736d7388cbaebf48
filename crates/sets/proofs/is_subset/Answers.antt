-- `s & t` has the common members: these are all of s exactly where each is one of t.
use Rattle.area.specs.Limits.{width}
use Rattle.sets.proofs.SetLaws.{and_subset}
use Rattle.sets.proofs.is_subset.Goals as goal

pub returns : goal.returns
returns c = record { answer = and_subset width c.args.s c.ranges.s.fits c.args.t c.ranges.t.fits }
