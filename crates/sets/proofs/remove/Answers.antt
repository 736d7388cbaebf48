-- A member is below the width, so the shift is too, and `^` clears its bit; what is no member need not be removed.
use Rattle.std.proofs.Common.{sym, ◌∙◌}
use Rattle.area.specs.Limits.{width}
use Rattle.sets.proofs.SetLaws.{bit_lt, xor_removed, same_removed}
use Rattle.sets.proofs.remove.Goals as goal

pub overflow_shl-result : goal.overflow_shl-result
overflow_shl-result c =
    bit_lt width c.args.s c.args.k c.ranges.s.fits (sym c.member.ensures.answer ∙ c.if-member.true)

pub returns-then-member : goal.returns-then-member
returns-then-member c =
    let is_member = sym c.member.ensures.answer ∙ c.if-member.true in
    let low = bit_lt width c.args.s c.args.k c.ranges.s.fits is_member in
    record { set = xor_removed width c.args.s c.ranges.s.fits c.args.k low is_member }

pub returns-else-member : goal.returns-else-member
returns-else-member c =
    record {
      set = same_removed width c.args.s c.ranges.s.fits c.args.k (sym c.member.ensures.answer ∙ c.if-member.false);
    }
