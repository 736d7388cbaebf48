-- `s & t` has the common members, and `^` takes them out of s.
use Rattle.area.specs.Limits.{width}
use Rattle.sets.proofs.SetLaws.{xor_without}
use Rattle.sets.proofs.without.Goals as goal

pub returns : goal.returns
returns c = record { set = xor_without width c.args.s c.ranges.s.fits c.args.t c.ranges.t.fits }
