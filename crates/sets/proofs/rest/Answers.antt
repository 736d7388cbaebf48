-- The empty set stays; of any other `s & (s - 1)` leaves out the lowest member.
use Rattle.std.proofs.Common.{sym, ap, ◌∙◌}
use Rattle.area.specs.Limits.{width}
use Rattle.sets.specs.Four.{beyond}
use Rattle.sets.proofs.FourLaws.{and_beyond, beyond_empty}
use Rattle.sets.proofs.rest.Goals as goal

pub returns-then-s-eq0 : goal.returns-then-s-eq0
returns-then-s-eq0 c = record { set = beyond_empty width ∙ ap (beyond width 1) (sym c.if-s-eq0.true) }

pub returns-else-s-eq0 : goal.returns-else-s-eq0
returns-else-s-eq0 c = record { set = and_beyond width c.args.s c.ranges.s.fits }
