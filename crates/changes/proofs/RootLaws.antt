-- Laws of the root of a change list l.
--     common_at                what it is to be an end of every change
--     root_of                  the root, by the two ends of the first change
--     root_lower, root_upper   the root is the lower end of the first change where that is common, and else the upper
--     common_root              where any router is common, the root is
--     root_least               and no common router has a lower number
--     root_in                  the root is one of the n routers
--     root_ends                what tells the root by the two ends of the first change
-- A common router is an end of the first change (`common_end`): the root is found among these two.
use Rattle.std.specs.Prelude.{ℕ, ◌≤◌, ◌<◌, ◌≡◌, true, false, ◌||◌, ◌⊎◌, List}
use Rattle.std.proofs.Math.Path.{refl, ap₂}
use Rattle.std.proofs.Common.{sym, subst, ◌∙◌, arith, eqb-true}
use Rattle.std.proofs.lemmas.Bool.{false≢true}
use Rattle.std.proofs.Math.Logic.{inl, inr, ⊎_elim}
use Rattle.std.proofs.Math.Decide.{dec_le}
use Rattle.std.proofs.Math.Dec.{eqb}
use Rattle.area.specs.Tests.{pick}
use Rattle.area.proofs.TestLaws.{look, or_cases, all_at}
use Rattle.entries.specs.Entries.{entry_count, from, to}
use Rattle.entries.proofs.EntryLaws.{read_from, read_to}
use Rattle.changes.specs.Root.{is_common, lower_end, upper_end, root}

module _ (l : List ℕ) where
  module _ (c : ℕ) where
    pub common_at : is_common l c ≡ true → (e : ℕ) → e < entry_count l → (from l e ≡ c) ⊎ (to l e ≡ c)
    unfolding is_common
    common_at h e b =
        let is-end = all_at (entry_count l) (λ e. eqb (from l e) c || eqb (to l e) c) h e b in
        ⊎_elim (λ t. inl (eqb-true (from l e) c t)) (λ t. inr (eqb-true (to l e) c t))
        (or_cases (eqb (from l e) c) (eqb (to l e) c) is-end)

  pub root_of :
      {lower upper : ℕ}
      → lower ≡ lower_end l
      → upper ≡ upper_end l
      → pick (is_common l lower) lower upper ≡ root l
  unfolding root
  root_of a b = ap₂ (λ (x y : ℕ). pick (is_common l x) x y) a b

  pub root_lower : is_common l (lower_end l) ≡ true → root l ≡ lower_end l
  unfolding root
  root_lower e = rw e refl

  pub root_upper : is_common l (lower_end l) ≡ false → root l ≡ upper_end l
  unfolding root
  root_upper e = rw e refl

  module _ (some : 0 < entry_count l) (c : ℕ) (common : is_common l c ≡ true) where
    -- a common router is one of the two ends of the first change
    common_end : (c ≡ lower_end l) ⊎ (c ≡ upper_end l)
    common_end = by_end (common_at c common 0 some) (dec_le (from l 0) (to l 0))
      where
        by_end : (from l 0 ≡ c) ⊎ (to l 0 ≡ c) → Dec (from l 0 ≤ to l 0) → (c ≡ lower_end l) ⊎ (c ≡ upper_end l)
        by_end (inl e) (yes h) = inl (omega arith)
        by_end (inl e) (no h) = inr (omega arith)
        by_end (inr e) (yes h) = inr (omega arith)
        by_end (inr e) (no h) = inl (omega arith)

    -- where the lower end is not common, it is the upper one
    common_upper : is_common l (lower_end l) ≡ false → c ≡ upper_end l
    common_upper f =
        ⊎_elim
        (λ e. absurd (false≢true (sym f ∙ subst (λ (x : ℕ). is_common l x ≡ true) e common)))
        (λ e. e)
        common_end

    pub common_root : is_common l (root l) ≡ true
    common_root =
        ⊎_elim
        (λ t. rw (root_lower t) t)
        (λ f. subst (λ (x : ℕ). is_common l x ≡ true) (common_upper f ∙ sym (root_upper f)) common)
        (look (is_common l (lower_end l)))

    pub root_least : root l ≤ c
    root_least =
        ⊎_elim
        (λ t. ⊎_elim (λ e. omega (arith, root_lower t)) (λ e. omega (arith, root_lower t)) common_end)
        (λ f. omega (arith, root_upper f, common_upper f))
        (look (is_common l (lower_end l)))

pub root_in : (n : ℕ) (l : List ℕ) → from l 0 < n → to l 0 < n → root l < n
root_in n l a b =
    ⊎_elim
    (λ t. omega (arith, root_lower l t))
    (λ f. omega (arith, root_upper l f))
    (look (is_common l (lower_end l)))

-- what tells the root by the two ends of the first change
pub ruleset root_ends = (root_lower, root_upper, read_from, read_to)
