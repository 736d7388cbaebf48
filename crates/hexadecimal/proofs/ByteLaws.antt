-- Laws of single bytes of a text in hexadecimal, case by case.
--     digit_lower                                          the value of a digit that is a small letter
--     digit_low, digit_middle, digit_between, digit_high   16 below, between and above the digits
--     space_line, space_space                              white space
--     first_space, first_hash, first_bad                   a byte that is no digit, where a pair may start
--     second_space, second_hash, second_bad                the same after the first digit of a pair
--     comment_ends, comment_lasts                          a byte of a comment
use Rattle.std.specs.Prelude.{ℕ, ◌-◌, ◌≤◌, ◌<◌, ◌≡◌, Bool, true, false}
use Rattle.std.proofs.Math.Path.{refl}
use native.Mathlib.Omega.{arith}
use borrow.Author.Tests.{le-ltb, le-leb, lt-leb, eq-eqb, ne_eqb}
use Rattle.hexadecimal.specs.declared.Reading.TheVariants.{Between, Comment, Bad, Odd}
use Rattle.hexadecimal.specs.Hex.{digit, is_space, first, second, next}

-- ---- digits
module _ (b : ℕ) where
  pub digit_lower : 97 ≤ b → b ≤ 102 → b - 87 ≡ digit b
  unfolding digit
  digit_lower h k =
      rw (le-leb 48 b (omega arith), lt-leb b 57 (omega arith), le-leb 65 b (omega arith), lt-leb b 70 (omega arith))
      (rw (le-leb 97 b h, le-leb b 102 k) refl)

  pub digit_low : b < 48 → 16 ≡ digit b
  unfolding digit
  digit_low h = rw (lt-leb 48 b h, lt-leb 65 b (omega arith), lt-leb 97 b (omega arith)) refl

  pub digit_middle : 57 < b → b < 65 → 16 ≡ digit b
  unfolding digit
  digit_middle h k =
      rw (le-leb 48 b (omega arith), lt-leb b 57 h, lt-leb 65 b k, lt-leb 97 b (omega arith)) refl

  pub digit_between : 70 < b → b < 97 → 16 ≡ digit b
  unfolding digit
  digit_between h k =
      rw (le-leb 48 b (omega arith), lt-leb b 57 (omega arith), le-leb 65 b (omega arith), lt-leb b 70 h)
      (rw (lt-leb 97 b k) refl)

  pub digit_high : 102 < b → 16 ≡ digit b
  unfolding digit
  digit_high h =
      rw (le-leb 48 b (omega arith), lt-leb b 57 (omega arith), le-leb 65 b (omega arith), lt-leb b 70 (omega arith))
      (rw (le-leb 97 b (omega arith), lt-leb b 102 h) refl)

-- ---- white space
module _ (b : ℕ) where
  pub space_line : 9 ≤ b → b ≤ 13 → true ≡ is_space b
  unfolding is_space
  space_line h k = rw (le-leb 9 b h, le-leb b 13 k) refl

  pub space_space : b ≡ 32 → true ≡ is_space b
  unfolding is_space
  space_space e = rw e refl

-- ---- a byte where a pair may start; d is its value as a digit, and s says whether it is white space
module _ (b d : ℕ) (is : d ≡ digit b) where
  module _ (s : Bool) (none : 16 ≤ d) (tells : s ≡ is_space b) where
    pub first_space : s ≡ true → Between ≡ first b
    unfolding first
    first_space t = rw (← is, le-ltb d 16 none, ← tells, t) refl

    pub first_hash : s ≡ false → b ≡ 35 → Comment ≡ first b
    unfolding first
    first_hash f e = rw (← is, le-ltb d 16 none, ← tells, f, eq-eqb b 35 e) refl

    pub first_bad : s ≡ false → (b ≡ 35 → ⊥) → Bad ≡ first b
    unfolding first
    first_bad f n = rw (← is, le-ltb d 16 none, ← tells, f, ne_eqb b 35 n) refl

-- ---- the same after the first digit h of a pair
module _ (h b d : ℕ) (is : d ≡ digit b) where
  module _ (s : Bool) (none : 16 ≤ d) (tells : s ≡ is_space b) where
    pub second_space : s ≡ true → Odd ≡ second h b
    unfolding second
    second_space t = rw (← is, le-ltb d 16 none, ← tells, t) refl

    pub second_hash : s ≡ false → b ≡ 35 → Odd ≡ second h b
    unfolding second
    second_hash f e = rw (← is, le-ltb d 16 none, ← tells, f, eq-eqb b 35 e) refl

    pub second_bad : s ≡ false → (b ≡ 35 → ⊥) → Bad ≡ second h b
    unfolding second
    second_bad f n = rw (← is, le-ltb d 16 none, ← tells, f, ne_eqb b 35 n) refl

-- ---- a byte of a comment
module _ (b : ℕ) where
  pub comment_ends : b ≡ 10 → Between ≡ next Comment b
  unfolding next
  comment_ends e = rw (eq-eqb b 10 e) refl

  pub comment_lasts : (b ≡ 10 → ⊥) → Comment ≡ next Comment b
  unfolding next
  comment_lasts f = rw (ne_eqb b 10 f) refl
