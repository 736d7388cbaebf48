-- Laws of the four lowest members of a set.
--     four_part, four_some     they are members, and there is one where the set has one
--     four_none                the empty set has none
--     beyond_next, beyond_four     members are left out one after another, and after four turns these are the four
--                              lowest
--     ones_size                the digits 1 of a set are as many as its members
--     and_beyond, beyond_empty     s & (s - 1) is s without its lowest member; the empty set stays
-- `size k s` counts the members below k, and the lowest member has none below it.
use Prim.Native.Nat.{ℕ, zero, suc, ◌+◌, ◌-◌, ◌/◌, ◌%◌, ◌^◌, ◌≤◌, ◌<◌}
use Rattle.std.specs.Prelude.{◌≡◌, Bool, ◌&&◌, eqb}
use Rattle.std.proofs.Math.Path.{refl, ap, ap₂}
use Rattle.std.proofs.Common.{sym, ◌∙◌, ⊎_elim, pow-suc, mul_comm}
use Rattle.std.proofs.Math.Bool.{true, false, not}
use Rattle.std.proofs.Math.Nat.{div-div-eq-div-mul}
use Rattle.std.proofs.Math.Decide.{dec_lt}
use native.Mathlib.Omega.{arith}
use borrow.Author.Tests.{lt-ltb, le-ltb, le-leb, lt-leb, eq-eqb, ne_eqb}
use Rattle.std.proofs.Math.Dec.{ltb, leb}
use Rattle.std.specs.Int.Bits.{bit_and, and_lt}
use Rattle.std.specs.Int.RustNames.{count_ones}
use Rattle.std.proofs.lemmas.Nat.{ones_le_self}
use lib.Count.{ones_step}
use Rattle.area.proofs.TestLaws.{look, both_true, and_true, and_false}
use Rattle.sets.specs.Sets.{num, bit, set_of, without}
use Rattle.sets.proofs.SetLaws.{num_digit, bit_zero, bit_set_of, bit_lt, set_of_lt}
use Rattle.sets.proofs.SetLaws.{set_of_same, set_of_none, is_set_of, bit_and_lem}
use Rattle.sets.specs.Counts.{size}
use Rattle.sets.proofs.CountLaws.{size_is, total_next, total_none}
use Rattle.sets.specs.Four.{four, beyond}

-- ---- members below k
size_zero : (s : ℕ) → size 0 s ≡ 0
size_zero s = size_is 0 s ∙ total_none (λ k. num (bit s k))

size_next : (k s : ℕ) → size (suc k) s ≡ size k s + num (bit s k)
size_next k s =
    size_is (suc k) s
    ∙ total_next k (λ i. num (bit s i))
    ∙ ap (λ (x : ℕ). x + num (bit s k)) (sym (size_is k s))

-- the first member has none below it
first_member : (s k : ℕ) → 1 ≤ size k s → (j : ℕ) × (j < k) × (bit s j ≡ true) × (size j s ≡ 0)
first_member s zero h = absurd (let x : ⊥ = omega (arith, size_zero s) in x)
first_member s (suc k) h = elim (dec_lt 0 (size k s)) [
  | yes l ↦ let x = first_member s k l in (x.0, omega (arith, x.1), x.2, x.3)
  | no f ↦ ⊎_elim
      (λ t. (k, omega arith, t, omega arith))
      (λ t. absurd (let x : ⊥ = omega (arith, size_next k s, ap num t) in x))
      (look (bit s k))
]

-- ---- the four lowest
module _ (w s : ℕ) where
  abbrev among : ℕ → Bool
  among k = bit s k && ltb (size k s) 4

  pub four_part : (k : ℕ) → bit (four w s) k ≡ true → bit s k ≡ true
  unfolding four
  four_part k e =
      let l = bit_lt w (set_of w among) k (set_of_lt w among) e in
      (both_true (bit s k) (ltb (size k s) 4) (sym (bit_set_of w among k l) ∙ e)).0

  stays : (j : ℕ) → j < w → bit s j ≡ true → size j s < 4 → bit (four w s) j ≡ true
  unfolding four
  stays j l t b =
      bit_set_of w among j l ∙ and_true (bit s j) (ltb (size j s) 4) t (lt-ltb (size j s) 4 b)

  -- the lowest member stays
  pub four_some : (k : ℕ) → k < w → bit s k ≡ true → (j : ℕ) × (bit (four w s) j ≡ true)
  four_some k h e = elim (dec_lt (size k s) 4) [
    | yes b ↦ (k, stays k h e b)
    | no f ↦
        let x = first_member s k (omega arith) in
        (x.0, stays x.0 (omega (arith, x.1)) x.2 (omega (arith, x.3)))
  ]

pub four_none : (w : ℕ) → four w 0 ≡ 0
unfolding four
four_none w = set_of_none w (among w 0) (λ k h. rw (bit_zero k) refl)

-- ---- members that are left out one after another
module _ (w s : ℕ) where
  abbrev left : (i k : ℕ) → Bool
  left i k = bit s k && leb i (size k s)

  -- of the members below k, i are left out
  size_beyond : (i k : ℕ) → k ≤ w → size k (beyond w i s) ≡ size k s - i
  unfolding beyond
  size_beyond i zero h = omega (arith, size_zero s, size_zero (set_of w (left i)))
  size_beyond i (suc k) h =
      size_next k (set_of w (left i))
      ∙ ap₂ (λ (x : ℕ) (b : Bool). x + num b) (size_beyond i k (omega arith)) (bit_set_of w (left i) k h)
      ∙ more (bit s k) (size k s) (dec_lt (size k s) i)
      ∙ ap (λ (x : ℕ). x - i) (sym (size_next k s))
    where
      more : (b : Bool) (c : ℕ) → Dec (c < i) → c - i + num (b && leb i c) ≡ c + num b - i
      more true c (yes l) = rw (lt-leb i c l) (omega arith)
      more true c (no f) = rw (le-leb i c (omega arith)) (omega arith)
      more false c d = omega arith

  pub beyond_lt : (i : ℕ) → beyond w i s < 2 ^ w
  unfolding beyond
  beyond_lt i = set_of_lt w (left i)

  pub beyond_next : (i : ℕ) → beyond w 1 (beyond w i s) ≡ beyond w (suc i) s
  unfolding beyond
  beyond_next i =
      set_of_same w (λ k. bit (set_of w (left i)) k && leb 1 (size k (set_of w (left i)))) (left (suc i))
      (λ k h.
      ap₂ (λ (b : Bool) (x : ℕ). b && leb 1 x) (bit_set_of w (left i) k h) (size_beyond i k (omega arith))
      ∙ both (bit s k) (size k s) (dec_lt i (size k s)))
    where
      both : (b : Bool) (c : ℕ) → Dec (i < c) → ((b && leb i c) && leb 1 (c - i)) ≡ (b && leb (suc i) c)
      both true c (yes l) = rw (le-leb i c (omega arith), le-leb 1 (c - i) (omega arith), le-leb (suc i) c l) refl
      both true c (no f) =
          rw (lt-leb 1 (c - i) (omega arith), lt-leb (suc i) c (omega arith)) (and_false (leb i c) false refl)
      both false c d = refl

  -- what is left out are the four lowest
  pub beyond_four : without w s (beyond w 4 s) ≡ four w s
  unfolding without four beyond
  beyond_four =
      set_of_same w (λ k. bit s k && not (bit (set_of w (left 4)) k)) (among w s)
      (λ k h.
      ap (λ (b : Bool). bit s k && not b) (bit_set_of w (left 4) k h)
      ∙ other (bit s k) (size k s) (dec_lt (size k s) 4))
    where
      other : (b : Bool) (c : ℕ) → Dec (c < 4) → (b && not (b && leb 4 c)) ≡ (b && ltb c 4)
      other true c (yes l) = rw (lt-leb 4 c l, lt-ltb c 4 l) refl
      other true c (no f) = rw (le-leb 4 c (omega arith), le-ltb c 4 (omega arith)) refl
      other false c d = refl

-- ---- s & (s - 1): by the last digit, and then by those above it
pub bit_half : (s k : ℕ) → bit s (suc k) ≡ bit (s / 2) k
unfolding bit
bit_half s k =
    ap (λ (x : ℕ). eqb (x % 2) 1)
    (ap (λ (x : ℕ). s / x) (pow-suc 2 k ∙ mul_comm (2 ^ k) 2) ∙ sym (div-div-eq-div-mul s 2 (2 ^ k)))

pub bit_last : (s : ℕ) → bit s 0 ≡ eqb (s % 2) 1
unfolding bit
bit_last s = let e : s / 2 ^ 0 ≡ s = omega arith in ap (λ (x : ℕ). eqb (x % 2) 1) e

size_half : (k s : ℕ) → size (suc k) s ≡ num (bit s 0) + size k (s / 2)
size_half zero s = omega (arith, size_next 0 s, size_zero s, size_zero (s / 2))
size_half (suc k) s =
    size_next (suc k) s
    ∙ ap₂ (λ (x : ℕ) (b : Bool). x + num b) (size_half k s) (bit_half s k)
    ∙ omega (arith, size_next k (s / 2))

-- the digits 1 of a set are as many as its members
pub ones_size : (w s : ℕ) → s < 2 ^ w → count_ones s ≡ size w s
ones_size zero s h = let none : s ≡ 0 = omega arith in rw none (omega (arith, ones_le_self 0, size_zero 0))
ones_size (suc w) s h =
    omega (
      arith,
      ones_step s,
      ones_size w (s / 2) (omega (arith, pow-suc 2 w)),
      size_half w s,
      ap num (bit_last s),
      num_digit (s % 2) (omega arith),
    )

-- a digit above the lowest 1 is kept, and that one is not
abbrev Keeps : (k s : ℕ) → Type 0
Keeps k s = (bit s k && bit (s - 1) k) ≡ (bit s k && leb 1 (size k s))

last_digit : (s : ℕ) → Dec (s % 2 < 1) → Keeps 0 s
last_digit s (yes l) = rw (bit_last s, ne_eqb (s % 2) 1 (λ e. omega arith)) refl
last_digit s (no f) =
    let even = bit_last (s - 1) ∙ ne_eqb ((s - 1) % 2) 1 (λ e. omega arith) in
    rw (even, size_zero s, lt-leb 1 0 (omega arith)) refl

-- where the last digit is 0, the others go by one less, and else all of them stay
next_digit : (k s : ℕ) → Dec (s % 2 < 1) → Keeps k (s / 2) → Keeps (suc k) s
next_digit k s (yes l) above =
    let half : (s - 1) / 2 ≡ s / 2 - 1 = omega arith in
    let none = bit_last s ∙ ne_eqb (s % 2) 1 (λ e. omega arith) in
    let count : size (suc k) s ≡ size k (s / 2) = omega (arith, size_half k s, ap num none) in
    rw (bit_half s k, bit_half (s - 1) k, half, count) above
next_digit k s (no f) above =
    let half : (s - 1) / 2 ≡ s / 2 = omega arith in
    let one = bit_last s ∙ eq-eqb (s % 2) 1 (omega arith) in
    let some : 1 ≤ size (suc k) s = omega (arith, size_half k s, ap num one) in
    rw (bit_half s k, bit_half (s - 1) k, half, le-leb 1 (size (suc k) s) some) (twice (bit (s / 2) k))
  where
    twice : (b : Bool) → (b && b) ≡ (b && true)
    twice true = refl
    twice false = refl

keeps : (k s : ℕ) → Keeps k s
keeps zero s = last_digit s (dec_lt (s % 2) 1)
keeps (suc k) s = next_digit k s (dec_lt (s % 2) 1) (keeps k (s / 2))

pub and_beyond : (w s : ℕ) → s < 2 ^ w → bit_and s (s - 1) ≡ beyond w 1 s
unfolding beyond
and_beyond w s fits =
    is_set_of w (bit_and s (s - 1)) (λ k. bit s k && leb 1 (size k s)) (and_lt w s (s - 1) fits (omega arith))
    (λ k h. bit_and_lem s (s - 1) k ∙ keeps k s)

-- the empty set stays as it is
pub beyond_empty : (w : ℕ) → 0 ≡ beyond w 1 0
unfolding beyond
beyond_empty w = sym (set_of_none w (λ k. bit 0 k && leb 1 (size k 0)) (λ k h. rw (bit_zero k) refl))
