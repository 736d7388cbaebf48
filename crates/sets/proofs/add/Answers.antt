-- Below the width `|` sets the bit; no set has a router from there on, so none can be added.
use Rattle.area.specs.Limits.{width}
use Rattle.sets.proofs.SetLaws.{or_added, same_added}
use Rattle.sets.proofs.add.Goals as goal

pub returns-then-k-lt-WIDTH : goal.returns-then-k-lt-WIDTH
returns-then-k-lt-WIDTH c = record { set = or_added width c.args.s c.ranges.s.fits c.args.k c.if-k-lt-WIDTH.true }

pub returns-else-k-lt-WIDTH : goal.returns-else-k-lt-WIDTH
returns-else-k-lt-WIDTH c = record { set = same_added width c.args.s c.ranges.s.fits c.args.k c.if-k-lt-WIDTH.false }
