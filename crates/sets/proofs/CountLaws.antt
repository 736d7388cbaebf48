-- Laws of sums and of the sizes of sets. Sums go by induction on n; a size is the sum of a set's digits.
--     total_none, total_next                       a sum over no router, and over one more
--     total_start, total_found                     the same for a loop that adds term after term
--     total_same, total_le, total_more             sums of equal terms, of smaller ones, and where one term is more
--     total_both                                   two sums are one
--     total_term                                   no term is more than the sum
--     total_tail                                   terms that are 0 make no difference
--     total_most, total_full, total_short          sums of terms of at most c, of terms c, and with a 0 among them
--     size_is                                      a size as a sum
--     size_start, size_found                       a size that is found router by router
--     size_added, size_removed, size_le            a member more, a member less, and a subset
--     size_none, size_within, size_most            no member; members below n; at most one for each router
--     size_without                                 the empty set is taken out
--     size_full, size_short                        all routers, and not all
use Prim.Native.Nat.{ℕ, zero, suc, ◌+◌, ◌*◌, ◌≤◌, ◌<◌}
use Rattle.std.specs.Prelude.{◌≡◌, refl, Bool, true, false, not, ◌&&◌, ◌≢◌}
use Rattle.std.proofs.Math.Path.{sym, ap}
use Rattle.std.proofs.Common.{ap₂, ◌∙◌, eq-or-lt_of_le, le_of_suc-le-suc, not-suc-le-zero, add-one}
use Rattle.std.proofs.Math.Logic.{⊎_elim}
use native.Mathlib.Omega.{arith}
use Rattle.area.proofs.TestLaws.{look, and_one}
use Rattle.sets.specs.Sets.{num, bit, added, removed, without}
use Rattle.sets.proofs.SetLaws.{bit_zero, bit_without, added_other, added_self, removed_other, removed_self}
use Rattle.sets.specs.Counts.{total, size}

-- ---- sums
pub total_none : (f : ℕ → ℕ) → total 0 f ≡ 0
unfolding total
total_none f = refl

pub total_next : (n : ℕ) (f : ℕ → ℕ) → total (suc n) f ≡ total n f + f n
unfolding total
total_next n f = refl

pub total_start : (f : ℕ → ℕ) → 0 ≡ total 0 f
total_start f = sym (total_none f)

pub total_found :
    (k : ℕ) (f : ℕ → ℕ) (sum term : ℕ)
    → sum ≡ total k f
    → term ≡ f k
    → sum + term ≡ total (k + 1) f
total_found k f sum term e g = ap₂ ◌+◌ e g ∙ sym (total_next k f) ∙ ap (λ (n : ℕ). total n f) (sym (add-one k))

pub total_same : (n : ℕ) (f g : ℕ → ℕ) → ((k : ℕ) → k < n → f k ≡ g k) → total n f ≡ total n g
unfolding total
total_same zero f g e = refl
total_same (suc n) f g e = ap₂ ◌+◌ (total_same n f g (λ k h. e k (omega arith))) (e n (omega arith))

pub total_le : (n : ℕ) (f g : ℕ → ℕ) → ((k : ℕ) → k < n → f k ≤ g k) → total n f ≤ total n g
unfolding total
total_le zero f g e = omega arith
total_le (suc n) f g e = omega (arith, total_le n f g (λ k h. e k (omega arith)), e n (omega arith))

-- the term a is more by c, and the others are equal
pub total_more :
    (n : ℕ) (f g : ℕ → ℕ) (a c : ℕ)
    → a < n
    → ((k : ℕ) → k < n → k ≢ a → g k ≡ f k)
    → g a ≡ f a + c
    → total n g ≡ total n f + c
unfolding total
total_more zero f g a c h e s = absurd (not-suc-le-zero h)
total_more (suc n) f g a c h e s =
    ⊎_elim last (λ l. earlier l (total_more n f g a c l (λ k b d. e k (omega arith) d) s))
    (eq-or-lt_of_le (le_of_suc-le-suc h))
  where
    last : a ≡ n → total n g + g n ≡ total n f + f n + c
    last q =
        let same = total_same n g f (λ k l. e k (omega arith) (λ p. omega arith)) in
        let more = sym (ap g q) ∙ s ∙ ap (λ (x : ℕ). f x + c) q in
        omega (arith, same, more)

    earlier : a < n → total n g ≡ total n f + c → total n g + g n ≡ total n f + f n + c
    earlier l more = omega (arith, more, e n (omega arith) (λ p. omega arith))

pub total_both : (n : ℕ) (f g : ℕ → ℕ) → total n (λ k. f k + g k) ≡ total n f + total n g
unfolding total
total_both zero f g = refl
total_both (suc n) f g = omega (arith, total_both n f g)

pub total_term : (n : ℕ) (f : ℕ → ℕ) (k : ℕ) → k < n → f k ≤ total n f
unfolding total
total_term zero f k h = absurd (not-suc-le-zero h)
total_term (suc n) f k h =
    ⊎_elim
    (λ (q : k ≡ n). rw q (omega arith))
    (λ (l : k < n). omega (arith, total_term n f k l))
    (eq-or-lt_of_le (le_of_suc-le-suc h))

pub total_tail :
    (n w : ℕ) (f : ℕ → ℕ)
    → n ≤ w
    → ((k : ℕ) → n ≤ k → f k ≡ 0)
    → total w f ≡ total n f
unfolding total
total_tail n zero f h z = let q : n ≡ 0 = omega arith in rw q refl
total_tail n (suc w) f h z =
    ⊎_elim
    (λ (q : n ≡ suc w). rw q refl)
    (λ (l : n < suc w). omega (arith, total_tail n w f (le_of_suc-le-suc l) z, z w (le_of_suc-le-suc l)))
    (eq-or-lt_of_le h)

-- ---- sums of terms of at most c
module _ (c : ℕ) (f : ℕ → ℕ) where
  pub total_most : (n : ℕ) → ((k : ℕ) → k < n → f k ≤ c) → total n f ≤ c * n
  unfolding total
  total_most zero h = omega arith
  total_most (suc n) h = omega (arith, total_most n (λ k l. h k (omega arith)), h n (omega arith))

  pub total_full : (n : ℕ) → ((k : ℕ) → k < n → f k ≡ c) → total n f ≡ c * n
  unfolding total
  total_full zero h = omega arith
  total_full (suc n) h = omega (arith, total_full n (λ k l. h k (omega arith)), h n (omega arith))

  pub total_short :
      (n : ℕ)
      → ((k : ℕ) → k < n → f k ≤ c)
      → (k : ℕ)
      → k < n
      → f k ≡ 0
      → total n f + c ≤ c * n
  unfolding total
  total_short zero h k l z = absurd (not-suc-le-zero l)
  total_short (suc n) h k l z =
      ⊎_elim
      (λ (q : k ≡ n). omega (arith, total_most n (λ i b. h i (omega arith)), sym (ap f q) ∙ z))
      (λ (b : k < n). omega (arith, total_short n (λ i d. h i (omega arith)) k b z, h n (omega arith)))
      (eq-or-lt_of_le (le_of_suc-le-suc l))

-- ---- sizes
digit : (s k : ℕ) → num (bit s k) ≤ 1
digit s k = go (bit s k)
  where
    go : (b : Bool) → num b ≤ 1
    go true = omega arith
    go false = omega arith

pub size_is : (w s : ℕ) → size w s ≡ total w (λ k. num (bit s k))
unfolding size
size_is w s = refl

pub size_start : (s : ℕ) → 0 ≡ size 0 s
unfolding size
size_start s = total_start (λ k. num (bit s k))

pub size_found : (k s count one : ℕ) → count ≡ size k s → one ≡ num (bit s k) → count + one ≡ size (k + 1) s
unfolding size
size_found k s = total_found k (λ i. num (bit s i))

pub size_added : (w s k : ℕ) → k < w → bit s k ≡ false → size w (added w s k) ≡ suc (size w s)
unfolding size
size_added w s k h e =
    let more = total_more w (λ i. num (bit s i)) (λ i. num (bit (added w s k) i)) k 1 h
    (λ i l d. ap num (added_other w s k i l d)) (rw (e, added_self w s k h) refl) in
    omega (arith, more)

pub size_removed : (w s k : ℕ) → k < w → bit s k ≡ true → size w s ≡ suc (size w (removed w s k))
unfolding size
size_removed w s k h e =
    let more = total_more w (λ i. num (bit (removed w s k) i)) (λ i. num (bit s i)) k 1 h
    (λ i l d. ap num (sym (removed_other w s k i l d))) (rw (e, removed_self w s k h) refl) in
    omega (arith, more)

pub size_le :
    (w s t : ℕ)
    → ((k : ℕ) → k < w → bit s k ≡ true → bit t k ≡ true)
    → size w s ≤ size w t
unfolding size
size_le w s t f =
    total_le w (λ k. num (bit s k)) (λ k. num (bit t k)) (λ k h. go (bit s k) (bit t k) (f k h))
  where
    go : (a b : Bool) → (a ≡ true → b ≡ true) → num a ≤ num b
    go false b g = omega arith
    go true b g = rw (g refl) (omega arith)

pub size_none : (w : ℕ) → size w 0 ≡ 0
unfolding size
size_none w = omega (arith, total_full 0 (λ k. num (bit 0 k)) w (λ k h. ap num (bit_zero k)))

pub size_without : (w s : ℕ) → size w (without w s 0) ≡ size w s
unfolding size
size_without w s =
    total_same w (λ k. num (bit (without w s 0) k)) (λ k. num (bit s k))
    (λ k h. ap num (bit_without w s 0 k h ∙ ap (λ (b : Bool). bit s k && not b) (bit_zero k) ∙ and_one (bit s k)))

pub size_within : (n w s : ℕ) → n ≤ w → ((k : ℕ) → bit s k ≡ true → k < n) → size w s ≡ size n s
unfolding size
size_within n w s h f = total_tail n w (λ k. num (bit s k)) h outside
  where
    outside : (k : ℕ) → n ≤ k → num (bit s k) ≡ 0
    outside k l = ⊎_elim (λ t. absurd (let x : ⊥ = omega (arith, f k t) in x)) (λ e. ap num e) (look (bit s k))

module _ (w s : ℕ) where
  pub size_most : size w s ≤ w
  unfolding size
  size_most = omega (arith, total_most 1 (λ k. num (bit s k)) w (λ k h. digit s k))

  pub size_full : ((k : ℕ) → k < w → bit s k ≡ true) → size w s ≡ w
  unfolding size
  size_full f = omega (arith, total_full 1 (λ k. num (bit s k)) w (λ k h. ap num (f k h)))

  pub size_short : (k : ℕ) → k < w → bit s k ≡ false → size w s < w
  unfolding size
  size_short k h e = omega (arith, total_short 1 (λ k. num (bit s k)) w (λ k h. digit s k) k h (ap num e))
