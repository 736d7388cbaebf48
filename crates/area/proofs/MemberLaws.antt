-- What stands in a list, by induction on it. `x ∈ (y ∷ l)` computes to `(x ≡ y) ⊎ (x ∈ l)`, so a clause over
-- it matches `inl e` and `inr m`.
--     member?                              a number stands in a list, or it does not
--     in_left, in_right, in_either         what stands in a list joined of two
--     in_map, of_map                       .. in a mapped list
--     in_collect, of_collect               .. in lists collected from the numbers below n
use Rattle.std.specs.Prelude.{ℕ, zero, suc, ◌<◌, ◌≡◌, refl, ◌⊎◌, List, [], ◌∷◌, ◌++◌, map}
use Rattle.std.proofs.Common.{ap, subst, inl, inr, ⊎_elim, eq-or-lt_of_le, le_of_suc-le-suc, not-suc-le-zero, arith}
use Rattle.std.proofs.Math.Decide.{ℕ_discrete}
use Rattle.area.specs.Lists.{◌∈◌, collect}

member_cons : (x y : ℕ) (l : List ℕ) → Dec (x ≡ y) → Dec (x ∈ l) → Dec (x ∈ (y ∷ l))
member_cons x y l (yes e) d = yes (inl e)
member_cons x y l (no f) (yes m) = yes (inr m)
member_cons x y l (no f) (no h) = no (⊎_elim f h)

pub member? : (x : ℕ) (l : List ℕ) → Dec (x ∈ l)
member? x [] = no (λ m. m)
member? x (y ∷ l) = member_cons x y l (ℕ_discrete x y) (member? x l)

-- ---- in a list joined of two
pub in_left : (x : ℕ) (s t : List ℕ) → x ∈ s → x ∈ (s ++ t)
in_left x [] t m = absurd m
in_left x (y ∷ s) t (inl e) = inl e
in_left x (y ∷ s) t (inr m) = inr (in_left x s t m)

pub in_right : (x : ℕ) (s t : List ℕ) → x ∈ t → x ∈ (s ++ t)
in_right x [] t m = m
in_right x (y ∷ s) t m = inr (in_right x s t m)

pub in_either : (x : ℕ) (s t : List ℕ) → x ∈ (s ++ t) → (x ∈ s) ⊎ (x ∈ t)
in_either x [] t m = inr m
in_either x (y ∷ s) t (inl e) = inl (inl e)
in_either x (y ∷ s) t (inr m) = ⊎_elim (λ a. inl (inr a)) (λ b. inr b) (in_either x s t m)

-- ---- in a mapped list
pub in_map : (f : ℕ → ℕ) (x : ℕ) (l : List ℕ) → x ∈ l → f x ∈ map f l
in_map f x [] m = absurd m
in_map f x (y ∷ l) (inl e) = inl (ap f e)
in_map f x (y ∷ l) (inr m) = inr (in_map f x l m)

pub of_map : (f : ℕ → ℕ) (x : ℕ) (l : List ℕ) → x ∈ map f l → (y : ℕ) × (y ∈ l) × (x ≡ f y)
of_map f x [] m = absurd m
of_map f x (y ∷ l) (inl e) = (y, inl refl, e)
of_map f x (y ∷ l) (inr m) = let t = of_map f x l m in (t.0, inr t.1, t.2)

-- ---- in lists collected from the numbers below n
pub in_collect : (n : ℕ) (f : ℕ → List ℕ) (k x : ℕ) → k < n → x ∈ f k → x ∈ collect n f
in_collect zero f k x h m = absurd (not-suc-le-zero h)
in_collect (suc n) f k x h m =
    ⊎_elim
    (λ e. in_right x (collect n f) (f n) (subst (λ (i : ℕ). x ∈ f i) e m))
    (λ lt. in_left x (collect n f) (f n) (in_collect n f k x lt m))
    (eq-or-lt_of_le (le_of_suc-le-suc h))

pub of_collect :
    (n : ℕ) (f : ℕ → List ℕ) (x : ℕ)
    → x ∈ collect n f
    → (k : ℕ) × (k < n) × (x ∈ f k)
of_collect zero f x m = absurd m
of_collect (suc n) f x m =
    ⊎_elim
    (λ a. let t = of_collect n f x a in (t.0, omega (arith, t.1), t.2))
    (λ b. (n, omega arith, b))
    (in_either x (collect n f) (f n) m)
