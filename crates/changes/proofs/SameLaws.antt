-- Laws of two lists l and k that have the same changes.
--     joined_same      two lists of whole entries, joined in either order, are such lists
--     common_same, root_same       they have the same common routers, and the same root
--     given_same       where neither has a pair twice, they give every pair the same metric
--     once_same, sound_same        where they are as many, and l has no pair twice and no fault, nor has k
-- The root is the lowest common router (`root_least`), so it is not decided by which change comes first.
use Rattle.std.specs.Prelude.{ℕ, ◌+◌, ◌-◌, ◌%◌, ◌<◌, ◌≡◌, Bool, true, false, ◌||◌, ◌≢◌, ◌⊎◌, List, ◌++◌, length}
use Rattle.std.proofs.Common.{sym, ap, ap₂, subst, ◌∙◌, inl, inr, arith}
use Rattle.std.proofs.lemmas.Bool.{false≢true}
use Rattle.std.proofs.Math.Decide.{dec_lt}
use Rattle.std.proofs.Math.Dec.{eqb}
use Rattle.area.specs.Tests.{all}
use Rattle.area.proofs.TestLaws.{look, same_test, all_at, all_true}
use Rattle.area.proofs.PigeonholeLaws.{onto}
use Rattle.entries.specs.declared.Entry.{Entry}
use Rattle.entries.specs.Entries.{entry_count, entry_of, from, to, metric, is_for_pair, listed_metric}
use Rattle.entries.proofs.EntryLaws.{read_from, read_to, read_metric, of_pair, pair_of, free_true, free_other}
use Rattle.entries.proofs.EntryLaws.{Given, given_cases, given_at, joined_count, joined_left, joined_right}
use Rattle.changes.specs.Root.{is_common, root}
use Rattle.changes.specs.SameChanges.{Within, SameChanges, Once}
use Rattle.changes.specs.Sound.{Sound}
use Rattle.changes.proofs.RootLaws.{common_root, root_least}

-- ---- two reports in either order: the changes of l and then those of k, or the other way round
joined_within :
    (l k : List ℕ)
    → length l % 5 ≡ 0
    → length k % 5 ≡ 0
    → Within (l ++ k) (k ++ l)
joined_within l k a b e h = by_part (dec_lt e (entry_count l))
  where
    by_part :
        Dec (e < entry_count l)
        → (d : ℕ) × (d < entry_count (k ++ l)) × (entry_of (k ++ l) d ≡ entry_of (l ++ k) e)
    by_part (yes c) = (
      entry_count k + e,
      omega (arith, joined_count k l b),
      joined_right k l b e c ∙ sym (joined_left l k a e c),
    )
    by_part (no c) =
        let d = e - entry_count l in
        let inside : d < entry_count k = omega (arith, joined_count l k a) in
        let place : entry_count l + d ≡ e = omega arith in (
          d,
          omega (arith, joined_count k l b),
          joined_left k l b d inside ∙ sym (joined_right l k a d inside) ∙ ap (entry_of (l ++ k)) place,
        )

pub joined_same : (l k : List ℕ) → length l % 5 ≡ 0 → length k % 5 ≡ 0 → SameChanges (l ++ k) (k ++ l)
joined_same l k a b = (joined_within l k a b, joined_within k l b a)

-- ---- a test of each change by itself
-- where all changes of k pass it, so do all of l
each_within :
    (l k : List ℕ) (p : Entry → Bool)
    → Within l k
    → all (entry_count k) (λ e. p (entry_of k e)) ≡ true
    → all (entry_count l) (λ e. p (entry_of l e)) ≡ true
each_within l k p w h =
    all_true (entry_count l) (λ e. p (entry_of l e))
    (λ e b. let x = w e b in ap p (sym x.2) ∙ all_at (entry_count k) (λ e. p (entry_of k e)) h x.0 x.1)

each_same :
    (l k : List ℕ) (p : Entry → Bool)
    → SameChanges l k
    → all (entry_count l) (λ e. p (entry_of l e)) ≡ all (entry_count k) (λ e. p (entry_of k e))
each_same l k p s = same_test _ _ (each_within k l p s.1) (each_within l k p s.0)

module _ (l k : List ℕ) (s : SameChanges l k) where
  pub common_same : (c : ℕ) → is_common l c ≡ is_common k c
  unfolding is_common
  common_same c = each_same l k (λ x. eqb x.from c || eqb x.to c) s

  -- ---- the root
  pub root_same : 0 < entry_count l → 0 < entry_count k → is_common l (root l) ≡ true → root l ≡ root k
  root_same a b h =
      let of-l = sym (common_same (root l)) ∙ h in
      let of-k = common_same (root k) ∙ common_root k b (root l) of-l in
      omega (arith, root_least k b (root l) of-l, root_least l a (root k) of-k)

-- ---- the metrics that they give
-- what a change of l gives, k gives too
given_within :
    (l k : List ℕ) (i j v : ℕ)
    → Within l k
    → Once k
    → {e : ℕ} → e < entry_count l → is_for_pair l e i j ≡ true
    → listed_metric k (entry_count k) i j v ≡ metric l e
given_within l k i j v w once {e} b t =
    let x = w e b in
    let pair = of_pair l e i j t in
    sym (ap₂ (λ (i j : ℕ). listed_metric k (entry_count k) i j v)
    (read_from x.2 ∙ pair.0) (read_to x.2 ∙ pair.1))
    ∙ given_at k (entry_count k) v once x.0 x.1
    ∙ read_metric x.2

pub given_same :
    (l k : List ℕ) (i j v : ℕ)
    → SameChanges l k
    → Once l
    → Once k
    → listed_metric l (entry_count l) i j v ≡ listed_metric k (entry_count k) i j v
given_same l k i j v s once_l once_k =
    by_cases (given_cases l (entry_count l) i j v) (given_cases k (entry_count k) i j v)
  where
    by_cases :
        Given l (entry_count l) i j v
        → Given k (entry_count k) i j v
        → listed_metric l (entry_count l) i j v ≡ listed_metric k (entry_count k) i j v
    by_cases (inl a) b = a.3 ∙ sym (given_within l k i j v s.0 once_k a.1 a.2)
    by_cases (inr a) (inl b) = given_within k l i j v s.1 once_l b.1 b.2 ∙ sym b.3
    by_cases (inr a) (inr b) = a ∙ sym b

-- ---- the same changes in another order: as many, so none of them twice
-- changes of the same pair stand at the same place
once_place :
    (l : List ℕ) → Once l
    → (e d : ℕ) → e < entry_count l → d < entry_count l
    → from l e ≡ from l d → to l e ≡ to l d → e ≡ d
once_place l once e d a b f t = by_order (dec_lt e d) (dec_lt d e)
  where
    never : (e d : ℕ) → d < entry_count l → e < d → from l e ≡ from l d → to l e ≡ to l d → ⊥
    never e d b h f t =
        false≢true (sym (free_other l d e (once d b) h) ∙ pair_of l d (from l e) (to l e) (sym f) (sym t))

    by_order : Dec (e < d) → Dec (d < e) → e ≡ d
    by_order (yes h) g = absurd (never e d b h f t)
    by_order (no h) (yes g) = absurd (never d e a g (sym f) (sym t))
    by_order (no h) (no g) = omega arith

module _ (l k : List ℕ) (s : SameChanges l k) (many : entry_count k ≡ entry_count l) (once : Once l) where
  -- the place in k of the change at e in l
  abbrev place_by : (e : ℕ) → Dec (e < entry_count l) → ℕ
  place_by e (yes b) = (s.0 e b).0
  place_by e (no b) = 0

  abbrev place : ℕ → ℕ
  place e = place_by e (dec_lt e (entry_count l))

  place_is : (e : ℕ) → e < entry_count l → (place e < entry_count l) × (entry_of k (place e) ≡ entry_of l e)
  place_is e b = by_dec (dec_lt e (entry_count l))
    where
      by_dec :
          (d : Dec (e < entry_count l))
          → (place_by e d < entry_count l) × (entry_of k (place_by e d) ≡ entry_of l e)
      by_dec (yes h) = let x = s.0 e h in (omega (arith, x.1, many), x.2)
      by_dec (no h) = absurd (h b)

  place_apart : (e d : ℕ) → e < entry_count l → d < entry_count l → place e ≡ place d → e ≡ d
  place_apart e d a b q =
      let same = sym (place_is e a).1 ∙ ap (entry_of k) q ∙ (place_is d b).1 in
      once_place l once e d a b (read_from same) (read_to same)

  -- so each place of k has a change of l, and no two places have the same
  at : (d : ℕ) → d < entry_count k → (x : ℕ) × (x < entry_count l) × (place x ≡ d)
  at d h = onto (entry_count l) place (λ x b. (place_is x b).0) place_apart d (omega arith)

  entry_at : (d : ℕ) (h : d < entry_count k) → entry_of l (at d h).0 ≡ entry_of k d
  entry_at d h = let x = at d h in sym (place_is x.0 x.1).1 ∙ ap (entry_of k) x.2

  pub once_same : Once k
  once_same e b = free_true k e (from k e) (to k e) (λ d h. other d h (look (is_for_pair k d (from k e) (to k e))))
    where
      other :
          (d : ℕ) → d < e
          → (is_for_pair k d (from k e) (to k e) ≡ true) ⊎ (is_for_pair k d (from k e) (to k e) ≡ false)
          → is_for_pair k d (from k e) (to k e) ≡ false
      other d h (inr f) = f
      other d h (inl t) =
          let c : d < entry_count k = omega arith in
          let x = at d c in
          let y = at e b in
          let pair = of_pair k d (from k e) (to k e) t in
          let same = once_place l once x.0 y.0 x.1 y.1
          (read_from (entry_at d c) ∙ pair.0 ∙ sym (read_from (entry_at e b)))
          (read_to (entry_at d c) ∙ pair.1 ∙ sym (read_to (entry_at e b))) in
          let met = sym x.2 ∙ ap place same ∙ y.2 in
          absurd (let z : ⊥ = omega (arith, met) in z)

  -- none of them has a fault
  pub sound_same : (n : ℕ) → Sound n l → Sound n k
  sound_same n sound e b =
      let x = s.1 e b in
      let c = sound x.0 x.1 in
      record {
        from_in = subst (λ (y : Entry). y.from < n) x.2 c.from_in;
        to_in = subst (λ (y : Entry). y.to < n) x.2 c.to_in;
        apart = subst (λ (y : Entry). y.from ≢ y.to) x.2 c.apart;
        some = subst (λ (y : Entry). y.metric ≢ 0) x.2 c.some;
        new = once_same e b;
      }
