-- Each bit of `s | t` is set where it is in s or in t.
use Rattle.area.specs.Limits.{width}
use Rattle.sets.proofs.SetLaws.{or_union}
use Rattle.sets.proofs.join.Goals as goal

pub returns : goal.returns
returns c = record { set = or_union width c.args.s c.ranges.s.fits c.args.t c.ranges.t.fits }
