-- Tables per router whose entries are computed one after another, by `array::from_fn`.
--     entries_are      where f r is computed for a router r below n, and 0 for any other, it is the table of f
use Rattle.std.proofs.Common.{refl, ℕ, zero, suc, ◌+◌, ◌≤◌, ◌<◌, ◌≡◌, List, subst, sym, arith, get_or}
use Rattle.std.proofs.Common.{⊎_elim, eq-or-lt_of_le}
use Rattle.std.specs.Fn.{Called, Mut}
use Rattle.std.specs.Array.{IsFromFnResult, IsFromFnResultFrom}
use Rattle.area.specs.Tables.{per_router}
use Rattle.area.proofs.PerRouterLaws.{is_per}

-- the entry of router r, where there are n routers
pub record Entry (n : ℕ) (f : ℕ → ℕ) (r x : ℕ) : Type 0 where
  pub inside : r < n → x ≡ f r
  pub outside : n ≤ r → x ≡ 0

module _
    {F : Type 0} {g : Mut F (ℕ × Unit {0}) ℕ} {c : F} (w n : ℕ) (f : ℕ → ℕ) (t : List ℕ)
    (gives : (r x : ℕ) (d : F) → r < w → Called g c (r, tt) x d → (d ≡ c) × Entry n f r x) where
  from_on :
      (k i : ℕ) (d : F)
      → d ≡ c
      → i + k ≡ w
      → IsFromFnResultFrom g d t i k
      → (r : ℕ) → i ≤ r → r < w → Entry n f r (get_or t r 0)
  from_on zero i d same long made r a b = absurd (omega arith)
  from_on (suc k) i d same long made r a b =
      let at = gives i made.1 made.0 (omega arith) (subst (λ (e : F). Called g e (i, tt) made.1 made.0) same made.3) in
      ⊎_elim
      (λ e. subst (λ (j : ℕ). Entry n f j (get_or t j 0)) e (subst (Entry n f i) (sym (made.2.1 0)) at.1))
      (λ l. from_on k (i + 1) made.0 at.0 (omega arith) made.4 r (omega arith) b)
      (eq-or-lt_of_le a)

  pub entries_are : IsFromFnResult g c t w → t ≡ per_router w n f
  entries_are made =
      let at = from_on w 0 c refl (omega arith) made.each in
      is_per w n f t made.long (λ r a b. (at r (omega arith) a).inside b) (λ r a b. (at r (omega arith) a).outside b)
