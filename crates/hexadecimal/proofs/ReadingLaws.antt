-- Laws of single bytes of a text in hexadecimal.
--     digit_decimal, digit_upper       the value of a digit, by its kind, of those that are printed
--     space_low, space_other           no white space
--     first_digit, second_digit        a digit where a pair may start, and after the first digit of a pair
--     first_not_odd, high_small        where a pair may start no digit is lone, and half a byte is below 16
use Rattle.std.specs.Prelude.{ℕ, ◌+◌, ◌*◌, ◌-◌, ◌≤◌, ◌<◌, ◌≡◌, Bool, true, false, cond, ◌||◌, ltb, leb, eqb}
use Rattle.std.proofs.Math.Path.{refl}
use Rattle.std.proofs.Math.Decide.{dec_lt}
use native.Mathlib.Omega.{arith}
use borrow.Author.Tests.{lt-ltb, le-ltb, le-leb, lt-leb, ne_eqb}
use Rattle.area.proofs.TestLaws.{and_false}
use Rattle.hexadecimal.specs.declared.Reading.{Reading}
use Rattle.hexadecimal.specs.declared.Reading.TheVariants.{Between, Comment, High, Byte, Bad, Odd}
use Rattle.hexadecimal.specs.Hex.{within, digit, is_space, first, second, next}
use Rattle.hexadecimal.specs.Reading.{high_half}

-- ---- a byte between two others
module _ (low high b : ℕ) where
  inside : low ≤ b → b ≤ high → within low high b ≡ true
  inside h k = rw (le-leb low b h, le-leb b high k) refl

  below : b < low → within low high b ≡ false
  below h = rw (lt-leb low b h) refl

  above : high < b → within low high b ≡ false
  above h = rw (lt-leb b high h) (and_false (leb low b) false refl)

-- ---- digits
module _ (b : ℕ) where
  pub digit_decimal : 48 ≤ b → b ≤ 57 → b - 48 ≡ digit b
  unfolding digit
  digit_decimal h k = rw (inside 48 57 b h k) refl

  pub digit_upper : 65 ≤ b → b ≤ 70 → b - 55 ≡ digit b
  unfolding digit
  digit_upper h k = rw (above 48 57 b (omega arith), inside 65 70 b h k) refl

-- ---- white space
module _ (b : ℕ) where
  pub space_low : b < 9 → false ≡ is_space b
  unfolding is_space
  space_low h = rw (below 9 13 b h, ne_eqb b 32 (λ (e : b ≡ 32). let x : ⊥ = omega arith in x)) refl

  pub space_other : 13 < b → (b ≡ 32 → ⊥) → false ≡ is_space b
  unfolding is_space
  space_other h f = rw (above 9 13 b h, ne_eqb b 32 f) refl

-- ---- a digit where a pair may start, of value d
module _ (b d : ℕ) (is : d ≡ digit b) where
  pub first_digit : d < 16 → High d ≡ first b
  unfolding first
  first_digit h = rw (← is, lt-ltb d 16 h) refl

-- ---- the same after the first digit h of a pair
module _ (h b d : ℕ) (is : d ≡ digit b) where
  pub second_digit : d < 16 → Byte (16 * h + d) ≡ second h b
  unfolding second
  second_digit l = rw (← is, lt-ltb d 16 l) refl

-- ---- where a pair may start, no digit is lone; and half a byte is below 16
pub first_not_odd : (b : ℕ) → first b ≡ Odd → ⊥
unfolding first
first_not_odd b = by_tests (ltb (digit b) 16) (is_space b) (eqb b 35) (digit b)
  where
    by_tests : (t u v : Bool) (h : ℕ) → cond t (High h) (cond u Between (cond v Comment Bad)) ≡ Odd → ⊥
    by_tests true u v h e = let z : ◌≡◌ {A = ℕ} 0 1 = cc in omega arith
    by_tests false true v h e = let z : ◌≡◌ {A = ℕ} 0 1 = cc in omega arith
    by_tests false false true h e = let z : ◌≡◌ {A = ℕ} 0 1 = cc in omega arith
    by_tests false false false h e = let z : ◌≡◌ {A = ℕ} 0 1 = cc in omega arith

first_small : (b : ℕ) → high_half (first b) < 16
unfolding first high_half
first_small b =
    elim (dec_lt (digit b) 16) [
      | yes h ↦ rw (lt-ltb (digit b) 16 h) h
      | no f ↦ rw (le-ltb (digit b) 16 (omega arith)) (by_tests (is_space b) (eqb b 35))
    ]
  where
    by_tests : (u v : Bool) → high_half (cond u Between (cond v Comment Bad)) < 16
    by_tests true v = omega arith
    by_tests false true = omega arith
    by_tests false false = omega arith

second_small : (h b : ℕ) → high_half (second h b) < 16
unfolding second high_half
second_small h b = by_tests (ltb (digit b) 16) (is_space b || eqb b 35)
  where
    by_tests : (t u : Bool) → high_half (cond t (Byte (16 * h + digit b)) (cond u Odd Bad)) < 16
    by_tests true u = omega arith
    by_tests false true = omega arith
    by_tests false false = omega arith

comment_small : (t : Bool) → high_half (cond t Between Comment) < 16
unfolding high_half
comment_small true = omega arith
comment_small false = omega arith

pub high_small : (s : Reading) (b : ℕ) → high_half (next s b) < 16
unfolding next high_half
high_small Between b = first_small b
high_small Comment b = comment_small (eqb b 10)
high_small (High h) b = second_small h b
high_small (Byte x) b = first_small b
high_small Bad b = omega arith
high_small Odd b = omega arith
