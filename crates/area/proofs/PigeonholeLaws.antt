-- How long a list with no number twice can be. By induction on n: the number n - 1 stands in the list at most once, and
-- without it the numbers are below n - 1.
--     without          a distinct list of numbers below n + 1, without n: it is at most one number shorter
--     pigeonhole       a distinct list of numbers below n has at most n of them
--     onto             a function that takes the numbers below n to different ones below n takes one to each of them
use Rattle.std.specs.Prelude.{ℕ, zero, suc, ◌≤◌, ◌<◌, ◌≡◌, refl, ◌≢◌, List, [], ◌∷◌, length}
use Rattle.std.proofs.Common.{sym, ◌∙◌, subst, inl, inr, ⊎_elim, not-suc-le-zero, arith}
use Rattle.std.proofs.Math.Decide.{ℕ_discrete}
use Rattle.area.specs.Lists.{◌∈◌, Distinct, Below}
use Rattle.area.proofs.MemberLaws.{member?}

-- what is left of the list l without n
record Without (n : ℕ) (l : List ℕ) : Type 0 where
  rest : List ℕ
  within : (x : ℕ) → x ∈ rest → x ∈ l
  distinct : Distinct rest
  below : Below n rest
  long : length l ≤ suc (length rest)

without_cons :
    (n x : ℕ) (l : List ℕ)
    → Distinct (x ∷ l)
    → Below (suc n) (x ∷ l)
    → Dec (x ≡ n)
    → Without n l
    → Without n (x ∷ l)
without_cons n x l d b (yes e) w = record {
  rest = l;
  within = λ y m. inr m;
  distinct = d.1;
  below = λ y m.
      let ne : y ≢ n = λ q. d.0 (subst (λ (z : ℕ). z ∈ l) (q ∙ sym e) m) in
      omega (arith, b y (inr m));
  long = omega arith;
}
without_cons n x l d b (no f) w = record {
  rest = x ∷ w.rest;
  within = λ y. ⊎_elim inl (λ m. inr (w.within y m));
  distinct = ((λ m. d.0 (w.within x m)), w.distinct);
  below = λ y. ⊎_elim (λ e. omega (arith, b x (inl refl))) (w.below y);
  long = omega (arith, w.long);
}

without : (n : ℕ) (l : List ℕ) → Distinct l → Below (suc n) l → Without n l
without n [] d b = record { rest = []; within = λ x m. m; distinct = tt; below = λ x m. absurd m; long = omega arith }
without n (x ∷ l) d b = without_cons n x l d b (ℕ_discrete x n) (without n l d.1 (λ y m. b y (inr m)))

pub pigeonhole : (n : ℕ) (l : List ℕ) → Distinct l → Below n l → length l ≤ n
pigeonhole zero [] d b = omega arith
pigeonhole zero (x ∷ l) d b = absurd (not-suc-le-zero (b x (inl refl)))
pigeonhole (suc n) l d b =
    let w = without n l d b in
    omega (arith, w.long, pigeonhole n w.rest w.distinct w.below)

-- ---- a function from the numbers below n to different numbers below n
module _
    (n : ℕ) (f : ℕ → ℕ)
    (inside : (x : ℕ) → x < n → f x < n)
    (apart : (x y : ℕ) → x < n → y < n → f x ≡ f y → x ≡ y)
  where
    -- the numbers that it takes those below k to
    record Taken (k : ℕ) : Type 0 where
      list : List ℕ
      size : length list ≡ k
      distinct : Distinct list
      from_below : (y : ℕ) → y ∈ list → (x : ℕ) × (x < k) × (f x ≡ y)

    taken : (k : ℕ) → k ≤ n → Taken k
    taken zero h = record { list = []; size = refl; distinct = tt; from_below = λ y m. absurd m }
    taken (suc k) h =
        let t = taken k (omega arith) in
        let new : f k ∈ t.list → ⊥ = λ m.
        let x = t.from_below (f k) m in
        let same = apart x.0 k (omega (arith, x.1)) (omega arith) x.2 in
        omega (arith, same, x.1) in
        record {
          list = f k ∷ t.list;
          size = omega (arith, t.size);
          distinct = (new, t.distinct);
          from_below = λ y. ⊎_elim
              (λ e. (k, omega arith, sym e))
              (λ m. let x = t.from_below y m in (x.0, omega (arith, x.1), x.2));
        }

    pub onto : (y : ℕ) → y < n → (x : ℕ) × (x < n) × (f x ≡ y)
    onto y h = by_member (member? y t.list)
      where
        t : Taken n
        t = taken n (omega arith)

        by_member : Dec (y ∈ t.list) → (x : ℕ) × (x < n) × (f x ≡ y)
        by_member (yes m) = t.from_below y m
        by_member (no m) =
            let below : Below n (y ∷ t.list) = λ z. ⊎_elim
            (λ e. omega (arith, e))
            (λ m. let x = t.from_below z m in omega (arith, x.2, inside x.0 x.1)) in
            absurd (let x : ⊥ = omega (arith, t.size, pigeonhole n (y ∷ t.list) (m, t.distinct) below) in x)
