-- Laws of the lowest number below n that passes a test p, and of one at which a measure is least. Each goes up by one
-- number after another: the number n is taken only where none below it passes.
--     lowest_passes, lowest_some, lowest_below     it passes; it is at most every one that passes; none below it does
--     lowest_first_lem, lowest_none                    what it is: the first that passes, and n where none does
--     lowest_start, lowest_skip, lowest_hit, lowest_out
--                                                  the same for a loop that goes through the numbers and returns at the
--                                                  first that passes: `k ≡ lowest k p` says that none below k does
--     Least, some_least                            of the numbers that pass, one at which the measure is least
use Prim.Native.Nat.{ℕ, zero, suc, ◌+◌, ◌≤◌, ◌<◌}
use Rattle.std.specs.Prelude.{◌≡◌, Bool, ◌⊎◌, ltb}
use Rattle.std.proofs.Math.Path.{refl, sym}
use Rattle.std.proofs.Common.{ap, ◌∙◌, inl, inr, ⊎_elim, eq-or-lt_of_le, le_of_suc-le-suc, not-suc-le-zero}
use Rattle.std.proofs.Math.Bool.{true, false}
use Rattle.std.proofs.lemmas.Bool.{false≢true}
use Rattle.std.proofs.Math.Decide.{dec_le, dec_lt}
use native.Mathlib.Omega.{arith}
use borrow.Author.Tests.{ltb-true, ltb-false}
use Rattle.area.specs.Tests.{pick, lowest}
use Rattle.area.proofs.TestLaws.{look}

-- ---- the lowest number that passes
module _ (p : ℕ → Bool) where
  -- one number more
  abbrev next : (n : ℕ) → ℕ
  next n = pick (ltb (lowest n p) n) (lowest n p) (pick (p n) n (suc n))

  lowest_top : (n : ℕ) → lowest n p ≤ n
  unfolding lowest
  lowest_top zero = omega arith
  lowest_top (suc n) = go (ltb (lowest n p) n) (p n) (lowest_top n)
    where
      go : (a b : Bool) → lowest n p ≤ n → pick a (lowest n p) (pick b n (suc n)) ≤ suc n
      go true b h = omega arith
      go false true h = omega arith
      go false false h = omega arith

  pub lowest_passes : (n : ℕ) → lowest n p < n → p (lowest n p) ≡ true
  unfolding lowest
  lowest_passes zero h = absurd (not-suc-le-zero h)
  lowest_passes (suc n) h = go (look (ltb (lowest n p) n)) (look (p n)) (lowest_passes n) h
    where
      go :
          (ltb (lowest n p) n ≡ true) ⊎ (ltb (lowest n p) n ≡ false)
          → (p n ≡ true) ⊎ (p n ≡ false)
          → (lowest n p < n → p (lowest n p) ≡ true)
          → next n < suc n
          → p (next n) ≡ true
      go (inl a) b before h = rw a (before (ltb-true (lowest n p) n a))
      go (inr a) (inl b) before h = rw (a, b) b
      go (inr a) (inr b) before h = absurd (let x : suc n < suc n = rw (a, b) at h in omega arith)

  pub lowest_some : (n k : ℕ) → k < n → p k ≡ true → lowest n p ≤ k
  unfolding lowest
  lowest_some zero k h e = absurd (not-suc-le-zero h)
  lowest_some (suc n) k h e =
      go (look (ltb (lowest n p) n)) (λ l. lowest_some n k l e) (eq-or-lt_of_le (le_of_suc-le-suc h))
    where
      go :
          (ltb (lowest n p) n ≡ true) ⊎ (ltb (lowest n p) n ≡ false)
          → (k < n → lowest n p ≤ k)
          → (k ≡ n) ⊎ (k < n)
          → next n ≤ k
      go (inl a) before (inl q) = rw a (omega (arith, ltb-true (lowest n p) n a))
      go (inl a) before (inr l) = rw a (before l)
      go (inr a) before (inl q) = rw (a, sym (ap p q) ∙ e) (omega arith)
      go (inr a) before (inr l) = absurd (let x : ⊥ = omega (arith, before l, ltb-false (lowest n p) n a) in x)

  pub lowest_below : (n k : ℕ) → k < lowest n p → p k ≡ false
  lowest_below n k h = ⊎_elim (λ e. absurd (passed e)) (λ f. f) (look (p k))
    where
      passed : p k ≡ true → ⊥
      passed e = omega (arith, lowest_top n, lowest_some n k (omega (arith, lowest_top n)) e)

  -- ---- what it is
  pub lowest_none : (n : ℕ) → ((j : ℕ) → j < n → p j ≡ false) → n ≡ lowest n p
  lowest_none n none = elim (dec_lt (lowest n p) n) [
    | yes h ↦ absurd (false≢true (sym (none (lowest n p) h) ∙ lowest_passes n h))
    | no f ↦ omega (arith, lowest_top n)
  ]

  pub lowest_first_lem :
      (n k : ℕ)
      → k < n
      → ((j : ℕ) → j < k → p j ≡ false)
      → p k ≡ true
      → k ≡ lowest n p
  lowest_first_lem n k h none e =
      let most = lowest_some n k h e in
      elim (dec_lt (lowest n p) k) [
        | yes l ↦ absurd (false≢true (sym (none (lowest n p) l) ∙ lowest_passes n (omega arith)))
        | no f ↦ omega arith
      ]

  -- ---- number by number
  pub lowest_start : 0 ≡ lowest 0 p
  unfolding lowest
  lowest_start = refl

  below_all : (k : ℕ) → k ≡ lowest k p → (j : ℕ) → j < k → p j ≡ false
  below_all k e j h = lowest_below k j (omega arith)

  pub lowest_skip : (k : ℕ) → k ≡ lowest k p → p k ≡ false → k + 1 ≡ lowest (k + 1) p
  lowest_skip k e f =
      lowest_none (k + 1)
      (λ j h. ⊎_elim
      (λ (q : j ≡ k). ap p q ∙ f)
      (λ (l : j < k). below_all k e j l)
      (eq-or-lt_of_le (omega arith)))

  pub lowest_hit : (n k : ℕ) → k < n → k ≡ lowest k p → p k ≡ true → k ≡ lowest n p
  lowest_hit n k h e = lowest_first_lem n k h (below_all k e)

  pub lowest_out : (n k : ℕ) → n ≤ k → k ≡ lowest k p → n ≡ lowest n p
  lowest_out n k h e = lowest_none n (λ j l. below_all k e j (omega arith))

-- ---- the least in some measure
-- k is below n and passes, and of all those that do its measure f is least
pub record Least (p : ℕ → Bool) (f : ℕ → ℕ) (n k : ℕ) : Type 0 where
  pub below : k < n
  pub passes : p k ≡ true
  pub least : (j : ℕ) → j < n → p j ≡ true → f k ≤ f j

module _ (p : ℕ → Bool) (f : ℕ → ℕ) where
  -- none of the numbers below n passes, or one of them is least
  abbrev pub NoneOrLeast : (n : ℕ) → Type 0
  NoneOrLeast n = ((k : ℕ) → k < n → p k ≡ false) ⊎ ((k : ℕ) × Least p f n k)

  last_or : {A : Type 0} (n k : ℕ) → k < suc n → (k ≡ n → A) → (k < n → A) → A
  last_or n k h a b = ⊎_elim a b (eq-or-lt_of_le (le_of_suc-le-suc h))

  -- n does not pass, or its measure is no less: what was least is so still
  least_still : (n k : ℕ) → Least p f n k → (p n ≡ true → f k ≤ f n) → Least p f (suc n) k
  least_still n k t g = record {
    below = omega (arith, t.below);
    passes = t.passes;
    least = λ j h e. last_or n j h (λ (q : j ≡ n). rw q (g (sym (ap p q) ∙ e))) (λ l. t.least j l e);
  }

  -- n passes, and its measure is at most that of any other
  least_last :
      (n : ℕ)
      → p n ≡ true
      → ((j : ℕ) → j < n → p j ≡ true → f n ≤ f j)
      → Least p f (suc n) n
  least_last n e g = record {
    below = omega arith;
    passes = e;
    least = λ j h t. last_or n j h (λ (q : j ≡ n). rw q (omega arith)) (λ l. g j l t);
  }

  pub some_least : (n : ℕ) → NoneOrLeast n
  some_least zero = inl (λ k h. absurd (not-suc-le-zero h))
  some_least (suc n) = by_last (look (p n)) (some_least n)
    where
      by_last : (p n ≡ true) ⊎ (p n ≡ false) → NoneOrLeast n → NoneOrLeast (suc n)
      by_last (inr z) (inl g) = inl (λ k h. last_or n k h (λ (q : k ≡ n). rw q z) (g k))
      by_last (inr z) (inr t) =
          inr (t.0, least_still n t.0 t.1 (λ e. absurd (false≢true (sym z ∙ e))))
      by_last (inl z) (inl g) = inr (n, least_last n z (λ j l e. absurd (false≢true (sym (g j l) ∙ e))))
      by_last (inl z) (inr t) = elim (dec_le (f t.0) (f n)) [
        | yes l ↦ inr (t.0, least_still n t.0 t.1 (λ e. l))
        | no h ↦ inr (n, least_last n z (λ j l e. omega (arith, t.1.least j l e)))
      ]
