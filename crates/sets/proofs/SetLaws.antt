-- Laws of router sets, once for every width w. Sets below 2 ^ w with the same bits are equal, since a number is the sum
-- of its binary digits; so two sets are compared bit by bit, those that code computes with those that are defined.
--     set_of_lt, bit_set_of, bit_beyond          what stands in `set_of w p`
--     set_of_same, is_set_of, same_set, same_members
--                                              when two sets are equal
--     set_of_none, none_set_of, member_some, no_members
--                                              when a set is empty
--     bit_added, bit_removed, bit_union, bit_without, subset_at, at_subset
--                                              the members of each
--     added_self, added_other, added_cases, added_still, removed_self, removed_other, removed_still
--                                              the same, of the router that was added or removed and of the others
--     without_none, without_added              s without t: where it is empty, and where t gets a member
--     set_of_start, set_of_skip, set_of_more      a set that is found router by router
--     bit_one, or_added, .. and_subset         what code computes, at a type of w bits
--     added_below                              a set of routers below n and one more of them
use Rattle.std.specs.Prelude.{ℕ, zero, suc, ◌+◌, ◌-◌, ◌*◌, ◌/◌, ◌%◌, ◌^◌, ◌≤◌, ◌<◌, ◌≡◌, Bool, ◌&&◌, ◌||◌, ◌≢◌, ◌⊎◌}
use Rattle.std.proofs.Math.Path.{refl, ap}
use Rattle.std.proofs.Common.{sym, ap₂, ◌∙◌, inl, inr, ⊎_elim, not-suc-le-zero, le_of_suc-le-suc, eq-or-lt_of_le}
use Rattle.std.proofs.Common.{sub-add_cancel, mul_assoc, mod-eq_of_lt, add-one, pow_pos, pow-add, pow_mono, shl_exact}
use Rattle.std.proofs.Math.Bool.{true, false, not}
use Rattle.std.proofs.lemmas.Bool.{false≢true}
use Rattle.std.proofs.Math.Nat.{pow-succ', mod-one, div-eq_of_lt, add-mul-div_right, add-mul-mod_self_right}
use Rattle.std.proofs.Math.Decide.{dec_lt, ℕ_discrete}
use native.Mathlib.Omega.{arith}
use borrow.Author.Tests.{eq-eqb, ne_eqb, eqb-true}
use Rattle.std.proofs.Math.Dec.{eqb}
use Rattle.std.proofs.Math.Arith.{mod-mul}
use Rattle.std.specs.Int.Bits.{bit_and, bit_or, bit_xor, and_lt}
use Rattle.std.proofs.lemmas.Nat.{or_shr, or_mod, or_lt, and_shr, and_mod, xor_shr, xor_mod, xor_lt}
use Rattle.std.proofs.Math.Pow.{pow-lt}
use Rattle.area.proofs.TestLaws.{both_true, and_false, and_one, or_cases, or_left, or_right, or_none, same_test}
use Rattle.sets.specs.Sets.{num, bit, set_of, added, removed, union, without, subset}

-- ---- what stands in a set
num_le : (b : Bool) (c : ℕ) → num b * c ≤ c
num_le true c = omega arith
num_le false c = omega arith

pub set_of_lt : (w : ℕ) (p : ℕ → Bool) → set_of w p < 2 ^ w
unfolding set_of
set_of_lt zero p = omega arith
set_of_lt (suc w) p = omega (arith, set_of_lt w p, num_le (p w) (2 ^ w), pow-succ' 2 w)

pow_split : (k w : ℕ) → k < w → 2 ^ w ≡ 2 ^ (w - suc k) * 2 * 2 ^ k
pow_split k w h =
    ap (λ (x : ℕ). 2 ^ x) (sym (sub-add_cancel h))
    ∙ pow-add 2 (w - suc k) (suc k)
    ∙ rw (pow-succ' 2 k, mul_assoc)

bit_low : (s c k w : ℕ) → k < w → bit (s + c * 2 ^ w) k ≡ bit s k
unfolding bit
bit_low s c k w h =
    let y = c * 2 ^ (w - suc k) in
    let e : c * 2 ^ w ≡ y * 2 * 2 ^ k = rw (pow_split k w h) (omega arith) in
    ap (λ (x : ℕ). eqb ((s + x) / 2 ^ k % 2) 1) e
    ∙ ap (λ (x : ℕ). eqb (x % 2) 1) (add-mul-div_right s (y * 2) (pow_pos k))
    ∙ ap (λ (x : ℕ). eqb x 1) (add-mul-mod_self_right (s / 2 ^ k) y 2)

bit_top : (s w : ℕ) (b : Bool) → s < 2 ^ w → bit (s + num b * 2 ^ w) w ≡ b
unfolding bit
bit_top s w b h = rw (add-mul-div_right s (num b) (pow_pos w), div-eq_of_lt h) (test b)
  where
    test : (b : Bool) → eqb ((0 + num b) % 2) 1 ≡ b
    test true = refl
    test false = refl

-- a number below 2 ^ k has no bit from k on
pub bit_above : (s k : ℕ) → s < 2 ^ k → bit s k ≡ false
unfolding bit
bit_above s k h = rw (div-eq_of_lt h)

pub bit_zero : (k : ℕ) → bit 0 k ≡ false
bit_zero k = bit_above 0 k (pow_pos k)

-- a member is below the width
pub bit_lt : (w s k : ℕ) → s < 2 ^ w → bit s k ≡ true → k < w
bit_lt w s k h e = elim (dec_lt k w) [
  | yes l ↦ l
  | no f ↦
      let le = pow_mono {i = w} {j = k} (omega arith) in
      absurd (false≢true (sym (bit_above s k (omega arith)) ∙ e))
]

pub bit_set_of : (w : ℕ) (p : ℕ → Bool) (k : ℕ) → k < w → bit (set_of w p) k ≡ p k
unfolding set_of
bit_set_of zero p k h = absurd (not-suc-le-zero h)
bit_set_of (suc w) p k h =
    ⊎_elim
    (λ e. rw e (bit_top (set_of w p) w (p w) (set_of_lt w p)))
    (λ lt. bit_low (set_of w p) (num (p w)) k w lt ∙ bit_set_of w p k lt)
    (eq-or-lt_of_le (le_of_suc-le-suc h))

pub bit_beyond : (w : ℕ) (p : ℕ → Bool) (k : ℕ) → w ≤ k → bit (set_of w p) k ≡ false
bit_beyond w p k h = bit_above (set_of w p) k (omega (arith, set_of_lt w p, pow_mono h))

-- ---- equal sets
pub set_of_same : (w : ℕ) (p q : ℕ → Bool) → ((k : ℕ) → k < w → p k ≡ q k) → set_of w p ≡ set_of w q
unfolding set_of
set_of_same zero p q f = refl
set_of_same (suc w) p q f =
    ap₂ (λ (x : ℕ) (b : Bool). x + num b * 2 ^ w)
    (set_of_same w p q (λ k h. f k (omega arith)))
    (f w (omega arith))

pub num_digit : (d : ℕ) → d < 2 → num (eqb d 1) ≡ d
num_digit zero h = refl
num_digit (suc zero) h = refl
num_digit (suc (suc d)) h = absurd (omega arith)

set_of_bits_mod : (w s : ℕ) → set_of w (bit s) ≡ s % 2 ^ w
unfolding set_of bit
set_of_bits_mod zero s = sym (mod-one s)
set_of_bits_mod (suc w) s =
    ap₂ (λ (x d : ℕ). x + d * 2 ^ w) (set_of_bits_mod w s) (num_digit (s / 2 ^ w % 2) (omega arith))
    ∙ (omega arith
    ∙ sym (mod-mul s {m = 2} {c = 2 ^ w} (omega arith) (pow_pos w))
    ∙ ap (λ (x : ℕ). s % x) (sym (pow-succ' 2 w)))

-- a set is the set of its members
pub set_of_bits : (w s : ℕ) → s < 2 ^ w → set_of w (bit s) ≡ s
set_of_bits w s h = set_of_bits_mod w s ∙ mod-eq_of_lt h

-- what has the members that p tests for is the set of p
pub is_set_of :
    (w s : ℕ) (p : ℕ → Bool)
    → s < 2 ^ w
    → ((k : ℕ) → k < w → bit s k ≡ p k)
    → s ≡ set_of w p
is_set_of w s p h f = sym (set_of_bits w s h) ∙ set_of_same w (bit s) p f

pub same_set : (w s t : ℕ) → s < 2 ^ w → t < 2 ^ w → ((k : ℕ) → k < w → bit s k ≡ bit t k) → s ≡ t
same_set w s t hs ht f = is_set_of w s (bit t) hs f ∙ set_of_bits w t ht

-- a number is below the power of two that it is the exponent of
below_power : (k : ℕ) → k < 2 ^ k
below_power zero = omega arith
below_power (suc k) = omega (arith, below_power k, pow-succ' 2 k)

-- whatever their width, sets with the same members are equal
pub same_members : (s t : ℕ) → ((k : ℕ) → bit s k ≡ bit t k) → s ≡ t
same_members s t f =
    same_set (s + t) s t (omega (arith, below_power s, pow_mono {i = s} {j = s + t} (omega arith)))
    (omega (arith, below_power t, pow_mono {i = t} {j = s + t} (omega arith)))
    (λ k h. f k)

-- ---- the empty set
pub set_of_none : (w : ℕ) (p : ℕ → Bool) → ((k : ℕ) → k < w → p k ≡ false) → set_of w p ≡ 0
set_of_none w p f = sym (is_set_of w 0 p (pow_pos w) (λ k h. bit_zero k ∙ sym (f k h)))

pub none_set_of : (w : ℕ) (p : ℕ → Bool) → set_of w p ≡ 0 → (k : ℕ) → k < w → p k ≡ false
none_set_of w p e k h = sym (bit_set_of w p k h) ∙ ap (λ (s : ℕ). bit s k) e ∙ bit_zero k

pub member_some : (s k : ℕ) → bit s k ≡ true → s ≢ 0
member_some s k e z = false≢true (sym (bit_zero k) ∙ ap (λ (t : ℕ). bit t k) (sym z) ∙ e)

pub no_members : (s : ℕ) → ((k : ℕ) → bit s k ≡ true → ⊥) → s ≡ 0
no_members s none =
    same_members s 0
    (λ k. same_test (bit s k) (bit 0 k) (λ t. absurd (none k t)) (λ t. absurd (false≢true (sym (bit_zero k) ∙ t))))

-- ---- the members of a set that was added to, removed from, joined
added_lt : (w s k : ℕ) → added w s k < 2 ^ w
unfolding added
added_lt w s k = set_of_lt w (λ i. bit s i || eqb i k)

pub removed_lt : (w s k : ℕ) → removed w s k < 2 ^ w
unfolding removed
removed_lt w s k = set_of_lt w (λ i. bit s i && not (eqb i k))

pub union_lt : (w s t : ℕ) → union w s t < 2 ^ w
unfolding union
union_lt w s t = set_of_lt w (λ i. bit s i || bit t i)

pub without_lt : (w s t : ℕ) → without w s t < 2 ^ w
unfolding without
without_lt w s t = set_of_lt w (λ i. bit s i && not (bit t i))

pub bit_added : (w s i k : ℕ) → k < w → bit (added w s i) k ≡ (bit s k || eqb k i)
unfolding added
bit_added w s i k h = bit_set_of w (λ j. bit s j || eqb j i) k h

pub bit_removed : (w s i k : ℕ) → k < w → bit (removed w s i) k ≡ (bit s k && not (eqb k i))
unfolding removed
bit_removed w s i k h = bit_set_of w (λ j. bit s j && not (eqb j i)) k h

pub bit_union : (w s t k : ℕ) → k < w → bit (union w s t) k ≡ (bit s k || bit t k)
unfolding union
bit_union w s t k h = bit_set_of w (λ j. bit s j || bit t j) k h

-- the router that was added or removed, and the others
pub bit_without : (w s t k : ℕ) → k < w → bit (without w s t) k ≡ (bit s k && not (bit t k))
unfolding without
bit_without w s t k h = bit_set_of w (λ i. bit s i && not (bit t i)) k h

pub added_self : (w s k : ℕ) → k < w → bit (added w s k) k ≡ true
added_self w s k h = bit_added w s k k h ∙ or_right (bit s k) (eqb k k) (eq-eqb k k refl)

pub added_other : (w s k i : ℕ) → i < w → i ≢ k → bit (added w s k) i ≡ bit s i
added_other w s k i l f = bit_added w s k i l ∙ rw (ne_eqb i k f) (or_none (bit s i))

pub added_still : (w s k i : ℕ) → i < w → bit s i ≡ true → bit (added w s k) i ≡ true
added_still w s k i l e = bit_added w s k i l ∙ or_left (bit s i) (eqb i k) e

pub added_cases : (w s k i : ℕ) → bit (added w s k) i ≡ true → (bit s i ≡ true) ⊎ (i ≡ k)
added_cases w s k i e =
    let l = bit_lt w (added w s k) i (added_lt w s k) e in
    ⊎_elim inl (λ t. inr (eqb-true i k t)) (or_cases (bit s i) (eqb i k) (sym (bit_added w s k i l) ∙ e))

pub removed_self : (w s k : ℕ) → k < w → bit (removed w s k) k ≡ false
removed_self w s k h = bit_removed w s k k h ∙ and_false (bit s k) (not (eqb k k)) (rw (eq-eqb k k refl) refl)

pub removed_other : (w s k i : ℕ) → i < w → i ≢ k → bit (removed w s k) i ≡ bit s i
removed_other w s k i l f = bit_removed w s k i l ∙ rw (ne_eqb i k f) (and_one (bit s i))

pub removed_still : (w s k i : ℕ) → bit (removed w s k) i ≡ true → bit s i ≡ true
removed_still w s k i e =
    let l = bit_lt w (removed w s k) i (removed_lt w s k) e in
    (both_true (bit s i) (not (eqb i k)) (sym (bit_removed w s k i l) ∙ e)).0

-- ---- a set that is found router by router: what a loop over the routers below k has
pub set_of_start : (p : ℕ → Bool) → 0 ≡ set_of 0 p
unfolding set_of
set_of_start p = refl

pub set_of_skip : (k : ℕ) (p : ℕ → Bool) → p k ≡ false → set_of k p ≡ set_of (k + 1) p
unfolding set_of
set_of_skip k p e = rw (add-one, e) (omega arith)

pub set_of_more : (w k : ℕ) (p : ℕ → Bool) → k < w → p k ≡ true → added w (set_of k p) k ≡ set_of (k + 1) p
set_of_more w k p l e =
    same_set w (added w (set_of k p) k) (set_of (k + 1) p) (added_lt w (set_of k p) k)
    (omega (arith, set_of_lt (k + 1) p, pow_mono {i = k + 1} {j = w} (omega arith)))
    (λ i h. bit_added w (set_of k p) k i h ∙ found i (ℕ_discrete i k) (dec_lt i k))
  where
    found : (i : ℕ) → Dec (i ≡ k) → Dec (i < k) → (bit (set_of k p) i || eqb i k) ≡ bit (set_of (k + 1) p) i
    found i (yes q) d =
        rw (q, eq-eqb k k refl, bit_set_of (k + 1) p k (omega arith), e) (or_right (bit (set_of k p) k) true refl)
    found i (no f) (yes h) =
        rw (ne_eqb i k f, bit_set_of k p i h, bit_set_of (k + 1) p i (omega arith)) (or_none (p i))
    found i (no f) (no g) =
        rw (ne_eqb i k f, bit_beyond k p i (omega arith), bit_beyond (k + 1) p i (omega arith)) refl

-- ---- subsets
outside : (a b : Bool) → (a ≡ true → b ≡ true) → (a && not b) ≡ false
outside true true f = refl
outside true false f = sym (f refl)
outside false b f = refl

inside : (a b : Bool) → (a && not b) ≡ false → a ≡ true → b ≡ true
inside true true e f = refl
inside true false e f = sym e
inside false b e f = absurd (false≢true f)

pub without_none :
    (w s t : ℕ)
    → ((k : ℕ) → k < w → bit s k ≡ true → bit t k ≡ true)
    → without w s t ≡ 0
unfolding without
without_none w s t f =
    set_of_none w (λ i. bit s i && not (bit t i)) (λ k h. outside (bit s k) (bit t k) (f k h))

-- where t gets a member, s without t loses it
pub without_added : (w s t k : ℕ) → without w s (added w t k) ≡ removed w (without w s t) k
unfolding without removed
without_added w s t k =
    set_of_same w (λ i. bit s i && not (bit (added w t k) i))
    (λ i. bit (set_of w (λ j. bit s j && not (bit t j))) i && not (eqb i k)) one
  where
    both : (a b c : Bool) → (a && not (b || c)) ≡ ((a && not b) && not c)
    both true true c = refl
    both true false c = refl
    both false b c = refl

    one : (i : ℕ)
        → i < w
        → (bit s i && not (bit (added w t k) i))
        ≡ (bit (set_of w (λ j. bit s j && not (bit t j))) i && not (eqb i k))
    one i h =
        rw (bit_added w t k i h, bit_set_of w (λ j. bit s j && not (bit t j)) i h) (both (bit s i) (bit t i) (eqb i k))

pub subset_at :
    (w s t : ℕ)
    → subset w s t ≡ true
    → (k : ℕ)
    → k < w
    → bit s k ≡ true
    → bit t k ≡ true
unfolding subset without
subset_at w s t e k h =
    let p : ℕ → Bool = λ i. bit s i && not (bit t i) in
    inside (bit s k) (bit t k) (none_set_of w p (eqb-true (set_of w p) 0 e) k h)

pub at_subset :
    (w s t : ℕ)
    → ((k : ℕ) → k < w → bit s k ≡ true → bit t k ≡ true)
    → subset w s t ≡ true
unfolding subset
at_subset w s t f = eq-eqb (without w s t) 0 (without_none w s t f)

-- ---- what code computes: a bit of an operation that goes digit by digit
module _
    (op : ℕ → ℕ → ℕ) (f : Bool → Bool → Bool)
    (shr : (a b k : ℕ) → op a b / 2 ^ k ≡ op (a / 2 ^ k) (b / 2 ^ k))
    (low : (a b k : ℕ) → op a b % 2 ^ k ≡ op (a % 2 ^ k) (b % 2 ^ k))
    (oo : eqb (op 0 0) 1 ≡ f false false)
    (oi : eqb (op 0 1) 1 ≡ f false true)
    (io : eqb (op 1 0) 1 ≡ f true false)
    (ii : eqb (op 1 1) 1 ≡ f true true)
  where
    op_digit : (d e : ℕ) → d < 2 → e < 2 → eqb (op d e) 1 ≡ f (eqb d 1) (eqb e 1)
    op_digit zero zero h l = oo
    op_digit zero (suc zero) h l = oi
    op_digit zero (suc (suc e)) h l = absurd (omega arith)
    op_digit (suc zero) zero h l = io
    op_digit (suc zero) (suc zero) h l = ii
    op_digit (suc zero) (suc (suc e)) h l = absurd (omega arith)
    op_digit (suc (suc d)) e h l = absurd (omega arith)

    bit_op : (s t k : ℕ) → bit (op s t) k ≡ f (bit s k) (bit t k)
    unfolding bit
    bit_op s t k =
        ap (λ (x : ℕ). eqb (x % 2) 1) (shr s t k)
        ∙ ap (λ (x : ℕ). eqb x 1) (low (s / 2 ^ k) (t / 2 ^ k) 1)
        ∙ op_digit (s / 2 ^ k % 2) (t / 2 ^ k % 2) (omega arith) (omega arith)

pub bit_or_lem : (s t k : ℕ) → bit (bit_or s t) k ≡ (bit s k || bit t k)
bit_or_lem = bit_op bit_or ◌||◌ or_shr or_mod refl refl refl refl

pub bit_and_lem : (s t k : ℕ) → bit (bit_and s t) k ≡ (bit s k && bit t k)
bit_and_lem = bit_op bit_and ◌&&◌ and_shr and_mod refl refl refl refl

abbrev differs : Bool → Bool → Bool
differs a true = not a
differs a false = a

bit_xor_lem : (s t k : ℕ) → bit (bit_xor s t) k ≡ differs (bit s k) (bit t k)
bit_xor_lem = bit_op bit_xor differs xor_shr xor_mod refl refl refl refl

-- `1 << k` at a type of w bits, and its one member
one_shifted : (w k : ℕ) → k < w → (1 * 2 ^ k) % 2 ^ w ≡ 2 ^ k
one_shifted w k h = shl_exact 1 k w (omega arith) (omega arith) ∙ omega arith

pub bit_one : (i k : ℕ) → bit (2 ^ k) i ≡ eqb i k
bit_one i k = elim (ℕ_discrete i k) [
  | yes e ↦ rw e (ap (λ (x : ℕ). bit x k) one ∙ bit_top 0 k true (pow_pos k) ∙ sym (eq-eqb k k refl))
  | no f ↦ elim (dec_lt i k) [
    | yes l ↦ ap (λ (x : ℕ). bit x i) one ∙ bit_low 0 1 i k l ∙ bit_zero i
    | no m ↦ bit_above (2 ^ k) i (pow-lt {i = k} {j = i} (omega arith))
  ] ∙ sym (ne_eqb i k f)
]
  where
    one : 2 ^ k ≡ 0 + 1 * 2 ^ k
    one = omega arith

module _ (w s : ℕ) (fits : s < 2 ^ w) where
  -- s | (1 << k)
  pub or_added : (k : ℕ) → k < w → bit_or s ((1 * 2 ^ k) % 2 ^ w) ≡ added w s k
  unfolding added
  or_added k h =
      rw (one_shifted w k h)
      (is_set_of w (bit_or s (2 ^ k)) (λ i. bit s i || eqb i k) (or_lt w s (2 ^ k) fits (pow-lt h))
      (λ i l. bit_or_lem s (2 ^ k) i ∙ ap (λ (b : Bool). bit s i || b) (bit_one i k)))

  -- no router from w on can be added
  pub same_added : (k : ℕ) → w ≤ k → s ≡ added w s k
  unfolding added
  same_added k h =
      is_set_of w s (λ i. bit s i || eqb i k) fits
      (λ i l. rw (ne_eqb i k (λ e. let x : ⊥ = omega arith in x)) (sym (or_none (bit s i))))

  -- s ^ (1 << k), where k is a member
  pub xor_removed : (k : ℕ) → k < w → bit s k ≡ true → bit_xor s ((1 * 2 ^ k) % 2 ^ w) ≡ removed w s k
  unfolding removed
  xor_removed k h e =
      rw (one_shifted w k h)
      (is_set_of w (bit_xor s (2 ^ k)) (λ i. bit s i && not (eqb i k)) (xor_lt w s (2 ^ k) fits (pow-lt h))
      (λ i l. bit_xor_lem s (2 ^ k) i ∙ ap (differs (bit s i)) (bit_one i k) ∙ struck i (ℕ_discrete i k)))
    where
      struck : (i : ℕ) → Dec (i ≡ k) → differs (bit s i) (eqb i k) ≡ (bit s i && not (eqb i k))
      struck i (yes q) = rw (q, eq-eqb k k refl, e) refl
      struck i (no f) = rw (ne_eqb i k f) (sym (and_one (bit s i)))

  -- a router that is no member need not be removed
  pub same_removed : (k : ℕ) → bit s k ≡ false → s ≡ removed w s k
  unfolding removed
  same_removed k e = is_set_of w s (λ i. bit s i && not (eqb i k)) fits (λ i l. kept i (ℕ_discrete i k))
    where
      kept : (i : ℕ) → Dec (i ≡ k) → bit s i ≡ (bit s i && not (eqb i k))
      kept i (yes q) = rw (q, eq-eqb k k refl, e) refl
      kept i (no f) = rw (ne_eqb i k f) (sym (and_one (bit s i)))

  module _ (t : ℕ) (room : t < 2 ^ w) where
    -- s | t
    pub or_union : bit_or s t ≡ union w s t
    unfolding union
    or_union = is_set_of w (bit_or s t) (λ i. bit s i || bit t i) (or_lt w s t fits room) (λ i l. bit_or_lem s t i)

    -- s ^ (s & t)
    pub xor_without : bit_xor s (bit_and s t) ≡ without w s t
    unfolding without
    xor_without =
        is_set_of w (bit_xor s (bit_and s t)) (λ i. bit s i && not (bit t i))
        (xor_lt w s (bit_and s t) fits (and_lt w s t fits room))
        (λ i l. bit_xor_lem s (bit_and s t) i ∙ ap (differs (bit s i)) (bit_and_lem s t i) ∙ struck (bit s i) (bit t i))
      where
        struck : (a b : Bool) → differs a (a && b) ≡ (a && not b)
        struck true true = refl
        struck true false = refl
        struck false b = refl

    -- s & t == s
    pub and_subset : eqb (bit_and s t) s ≡ subset w s t
    and_subset = same_test (eqb (bit_and s t) s) (subset w s t) down up
      where
        part : (a b : Bool) → (a && b) ≡ a → a ≡ true → b ≡ true
        part true b e f = e
        part false b e f = absurd (false≢true f)

        whole : (a b : Bool) → (a ≡ true → b ≡ true) → (a && b) ≡ a
        whole true b f = f refl
        whole false b f = refl

        down : eqb (bit_and s t) s ≡ true → subset w s t ≡ true
        down e =
            let same = eqb-true (bit_and s t) s e in
            at_subset w s t
            (λ k h. part (bit s k) (bit t k) (sym (bit_and_lem s t k) ∙ ap (λ (x : ℕ). bit x k) same))

        up : subset w s t ≡ true → eqb (bit_and s t) s ≡ true
        up e =
            eq-eqb (bit_and s t) s
            (same_set w (bit_and s t) s (and_lt w s t fits room) fits
            (λ k h. bit_and_lem s t k ∙ whole (bit s k) (bit t k) (subset_at w s t e k h)))

pub added_below : (w n s k : ℕ) → n ≤ w → s < 2 ^ n → k < n → added w s k < 2 ^ n
added_below w n s k b h l =
    rw (← or_added w s (omega (arith, pow_mono b)) k (omega arith), one_shifted w k (omega arith))
    (or_lt n s (2 ^ k) h (pow-lt l))
