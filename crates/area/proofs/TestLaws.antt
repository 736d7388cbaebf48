-- Laws of tests, by cases of each, and by induction for those of all numbers below n.
--     look                                         a test holds or fails
--     both_true, and_true, and_false, and_one      a test and another
--     or_cases, or_left, or_right, or_false, or_none
--                                                  a test or another
--     same_test                                    two tests that hold together are equal
--     all_none, all_next, all_at, all_true, all_false
--                                                  a test of all numbers below n
--     then_some, then_none, then_both              a refusal, and then another
--     first_none, first_fault, none_first          the first refusal; it is 0 exactly where there is none
--     first_same                                   equal refusals have the same first one
use Prim.Native.Nat.{ℕ, zero, suc, ◌<◌}
use Rattle.std.specs.Prelude.{◌≡◌, Bool, true, false, ◌&&◌, ◌||◌, ◌≢◌, ◌⊎◌}
use Rattle.std.proofs.Math.Path.{refl, subst}
use Rattle.std.proofs.Common.{sym, ap₂, ◌∙◌, inl, inr, eq-or-lt_of_le, le_of_suc-le-suc, not-suc-le-zero, arith}
use Rattle.std.proofs.Common.{eq-eqb, ne_eqb}
use Rattle.std.proofs.lemmas.Bool.{false≢true}
use Rattle.std.proofs.Math.Logic.{⊎_elim}
use Rattle.std.proofs.Math.Decide.{ℕ_discrete}
use Rattle.area.specs.Tests.{all, or_then, first}

pub look : (b : Bool) → (b ≡ true) ⊎ (b ≡ false)
look true = inl refl
look false = inr refl

pub both_true : (a b : Bool) → (a && b) ≡ true → (a ≡ true) × (b ≡ true)
both_true true b e = (refl, e)
both_true false b e = absurd (false≢true e)

pub and_true : (a b : Bool) → a ≡ true → b ≡ true → (a && b) ≡ true
and_true true b e f = f
and_true false b e f = absurd (false≢true e)

pub and_false : (a b : Bool) → b ≡ false → (a && b) ≡ false
and_false true b e = e
and_false false b e = refl

pub and_one : (b : Bool) → (b && true) ≡ b
and_one true = refl
and_one false = refl

pub or_cases : (a b : Bool) → (a || b) ≡ true → (a ≡ true) ⊎ (b ≡ true)
or_cases true b e = inl refl
or_cases false b e = inr e

pub or_left : (a b : Bool) → a ≡ true → (a || b) ≡ true
or_left true b e = refl
or_left false b e = absurd (false≢true e)

pub or_right : (a b : Bool) → b ≡ true → (a || b) ≡ true
or_right true b e = refl
or_right false b e = e

pub or_false : (a b : Bool) → (a || b) ≡ false → (a ≡ false) × (b ≡ false)
or_false true b e = absurd (false≢true (sym e))
or_false false b e = (refl, e)

pub or_none : (b : Bool) → (b || false) ≡ b
or_none true = refl
or_none false = refl

pub same_test : (a b : Bool) → (a ≡ true → b ≡ true) → (b ≡ true → a ≡ true) → a ≡ b
same_test true b f g = sym (f refl)
same_test false true f g = g refl
same_test false false f g = refl

-- ---- all numbers below n
pub all_none : (p : ℕ → Bool) → all 0 p ≡ true
unfolding all
all_none p = refl

pub all_next : (n : ℕ) (p : ℕ → Bool) → all (suc n) p ≡ (all n p && p n)
unfolding all
all_next n p = refl

pub all_at : (n : ℕ) (p : ℕ → Bool) → all n p ≡ true → (k : ℕ) → k < n → p k ≡ true
unfolding all
all_at zero p e k h = absurd (not-suc-le-zero h)
all_at (suc n) p e k h =
    let b = both_true (all n p) (p n) e in
    ⊎_elim
    (λ q. subst (λ (x : ℕ). p x ≡ true) (sym q) b.1)
    (λ l. all_at n p b.0 k l)
    (eq-or-lt_of_le (le_of_suc-le-suc h))

pub all_true : (n : ℕ) (p : ℕ → Bool) → ((k : ℕ) → k < n → p k ≡ true) → all n p ≡ true
unfolding all
all_true zero p f = refl
all_true (suc n) p f =
    and_true (all n p) (p n) (all_true n p (λ k h. f k (omega arith))) (f n (omega arith))

pub all_false : (n : ℕ) (p : ℕ → Bool) (k : ℕ) → k < n → p k ≡ false → all n p ≡ false
all_false n p k h e =
    ⊎_elim (λ t. absurd (false≢true (sym e ∙ all_at n p t k h))) (λ f. f) (look (all n p))

-- ---- refusals
pub then_some : (a b : ℕ) → a ≢ 0 → or_then a b ≡ a
then_some a b f = rw (ne_eqb a 0 f) refl

pub then_none : (a b : ℕ) → a ≡ 0 → or_then a b ≡ b
then_none a b z = rw (eq-eqb a 0 z) refl

pub then_both : (a b : ℕ) → or_then a b ≡ 0 → (a ≡ 0) × (b ≡ 0)
then_both a b z = by_first (ℕ_discrete a 0)
  where
    by_first : Dec (a ≡ 0) → (a ≡ 0) × (b ≡ 0)
    by_first (yes e) = (e, sym (then_none a b e) ∙ z)
    by_first (no f) = absurd (f (sym (then_some a b f) ∙ z))

module _ (f : ℕ → ℕ) where
  pub first_none : (n : ℕ) → ((k : ℕ) → k < n → f k ≡ 0) → first n f ≡ 0
  unfolding first
  first_none zero g = refl
  first_none (suc n) g =
      then_none (first n f) (f n) (first_none n (λ k h. g k (omega arith)))
      ∙ g n (omega arith)

  -- the first fault stays the first
  pub first_fault : (k n : ℕ) → k < n → ((d : ℕ) → d < k → f d ≡ 0) → f k ≢ 0 → first n f ≡ f k
  unfolding first
  first_fault k zero h g bad = absurd (not-suc-le-zero h)
  first_fault k (suc n) h g bad =
      ⊎_elim
      (λ (q : k ≡ n). subst (λ (x : ℕ). first (suc x) f ≡ f k) q (then_none (first k f) (f k) (first_none k g)))
      (λ (b : k < n). later (first_fault k n b g bad))
      (eq-or-lt_of_le (le_of_suc-le-suc h))
    where
      later : first n f ≡ f k → or_then (first n f) (f n) ≡ f k
      later before = then_some (first n f) (f n) (λ z. bad (sym before ∙ z)) ∙ before

  pub none_first : (n : ℕ) → first n f ≡ 0 → (k : ℕ) → k < n → f k ≡ 0
  unfolding first
  none_first zero z k h = absurd (not-suc-le-zero h)
  none_first (suc n) z k h =
      let b = then_both (first n f) (f n) z in
      ⊎_elim
      (λ (q : k ≡ n). rw q b.1)
      (λ (l : k < n). none_first n b.0 k l)
      (eq-or-lt_of_le (le_of_suc-le-suc h))

pub first_same : (n : ℕ) (f g : ℕ → ℕ) → ((k : ℕ) → k < n → f k ≡ g k) → first n f ≡ first n g
unfolding first
first_same zero f g e = refl
first_same (suc n) f g e = ap₂ or_then (first_same n f g (λ k h. e k (omega arith))) (e n (omega arith))
