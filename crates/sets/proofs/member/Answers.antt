-- Below the width the bit is read; from there on a set has none.
use Rattle.std.proofs.Common.{refl, sym, arith}
use lib.Pow.{pow_mono}
use Rattle.area.specs.Limits.{width}
use Rattle.sets.specs.Sets.{bit}
use Rattle.sets.proofs.SetLaws.{bit_above}
use Rattle.sets.proofs.member.Goals as goal

pub returns-then-k-lt-WIDTH : goal.returns-then-k-lt-WIDTH
unfolding bit
returns-then-k-lt-WIDTH c = record { answer = refl }

pub returns-else-k-lt-WIDTH : goal.returns-else-k-lt-WIDTH
returns-else-k-lt-WIDTH c =
    let a = c.args in
    record {
      answer =
          sym (bit_above a.s a.k (omega (arith, c.ranges.s, pow_mono {i = width} {j = a.k} c.if-k-lt-WIDTH.false)));
    }
