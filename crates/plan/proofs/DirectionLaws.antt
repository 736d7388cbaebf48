-- Laws of which way a change goes.
--     at_most_at, at_most_true     the test over all pairs of routers, pair by pair; beyond n nothing is usable
--     rise_at, fall_at     no usable metric becomes smaller in a rise, and none larger in a fall
--     same_at, same_both   every pair keeps its own exactly where none becomes smaller and none larger
--     listed_rise, listed_fall     it is enough to look at the pairs of the changes
use Rattle.std.specs.Prelude.{ℕ, ◌≤◌, ◌<◌, ◌≡◌, true, ◌&&◌, List}
use Rattle.std.proofs.Math.Path.{sym}
use Rattle.std.proofs.Common.{◌∙◌, arith}
use Rattle.std.proofs.Math.Decide.{dec_lt}
use Rattle.std.proofs.Math.Dec.{leb, eqb}
use borrow.Author.Tests.{leb-true, le-leb, eqb-true, eq-eqb}
use Rattle.area.specs.Limits.{width, unused}
use Rattle.area.specs.Tables.{cell}
use Rattle.area.specs.Tests.{all}
use Rattle.area.proofs.TestLaws.{same_test, both_true, and_true, all_at, all_true}
use Rattle.entries.specs.Entries.{entry_count, from, to}
use Rattle.topology.specs.Topology.{topology}
use Rattle.topology.proofs.TopologyLaws.{link_back, link_metric, metric_link, no_link, topology_top}
use Rattle.plan.specs.NewMetrics.{new_metrics}
use Rattle.plan.specs.Direction.{are_at_most, is_same, is_rise, is_fall}
use Rattle.plan.proofs.MetricLaws.{Pair, listed, reversed, untouched, pair_of}
use Rattle.plan.specs.Parts.{is_at_most, are_listed_at_most}

module _ (n : ℕ) (m o : List ℕ) where
  pub at_most_at : are_at_most n m o ≡ true → (i j : ℕ) → topology n m i j ≤ topology n o i j
  unfolding are_at_most
  at_most_at h i j = by_routers (dec_lt i n) (dec_lt j n)
    where
      by_routers : Dec (i < n) → Dec (j < n) → topology n m i j ≤ topology n o i j
      by_routers (yes a) (yes b) =
          let row = all_at n (λ i. all n (λ j. leb (topology n m i j) (topology n o i j))) h i a in
          leb-true (topology n m i j) (topology n o i j)
          (all_at n (λ j. leb (topology n m i j) (topology n o i j)) row j b)
      by_routers (no a) b =
          omega (arith, no_link n o i j (λ l. a l.from), topology_top n m i j)
      by_routers (yes a) (no b) =
          omega (arith, no_link n o i j (λ l. b l.to), topology_top n m i j)

  pub at_most_true : ((i j : ℕ) → topology n m i j ≤ topology n o i j) → are_at_most n m o ≡ true
  unfolding are_at_most
  at_most_true each =
      all_true n (λ i. all n (λ j. leb (topology n m i j) (topology n o i j)))
      (λ i a. all_true n (λ j. leb (topology n m i j) (topology n o i j))
      (λ j b. le-leb (topology n m i j) (topology n o i j) (each i j)))

module _ (n : ℕ) (m l : List ℕ) where
  pub rise_at : is_rise n m l ≡ true → (i j : ℕ) → topology n m i j ≤ topology n (new_metrics n m l) i j
  unfolding is_rise
  rise_at = at_most_at n m (new_metrics n m l)

  pub fall_at : is_fall n m l ≡ true → (i j : ℕ) → topology n (new_metrics n m l) i j ≤ topology n m i j
  unfolding is_fall
  fall_at = at_most_at n (new_metrics n m l) m

  pub same_at : is_same n m l ≡ true → (i j : ℕ) → topology n m i j ≡ topology n (new_metrics n m l) i j
  unfolding is_same
  same_at h i j = by_routers (dec_lt i n) (dec_lt j n)
    where
      by_routers : Dec (i < n) → Dec (j < n) → topology n m i j ≡ topology n (new_metrics n m l) i j
      by_routers (yes a) (yes b) =
          let row = all_at n (λ i. all n (λ j. eqb (topology n m i j) (topology n (new_metrics n m l) i j))) h i a in
          eqb-true (topology n m i j) (topology n (new_metrics n m l) i j)
          (all_at n (λ j. eqb (topology n m i j) (topology n (new_metrics n m l) i j)) row j b)
      by_routers (no a) b =
          no_link n m i j (λ l. a l.from) ∙ sym (no_link n (new_metrics n m l) i j (λ l. a l.from))
      by_routers (yes a) (no b) =
          no_link n m i j (λ l. b l.to) ∙ sym (no_link n (new_metrics n m l) i j (λ l. b l.to))

  same_true :
      ((i j : ℕ) → topology n m i j ≡ topology n (new_metrics n m l) i j)
      → is_same n m l ≡ true
  unfolding is_same
  same_true each =
      all_true n (λ i. all n (λ j. eqb (topology n m i j) (topology n (new_metrics n m l) i j)))
      (λ i a. all_true n (λ j. eqb (topology n m i j) (topology n (new_metrics n m l) i j))
      (λ j b. eq-eqb (topology n m i j) (topology n (new_metrics n m l) i j) (each i j)))

  rise_true :
      ((i j : ℕ) → topology n m i j ≤ topology n (new_metrics n m l) i j)
      → is_rise n m l ≡ true
  unfolding is_rise
  rise_true = at_most_true n m (new_metrics n m l)

  fall_true :
      ((i j : ℕ) → topology n (new_metrics n m l) i j ≤ topology n m i j)
      → is_fall n m l ≡ true
  unfolding is_fall
  fall_true = at_most_true n (new_metrics n m l) m

  pub same_both : is_same n m l ≡ (is_rise n m l && is_fall n m l)
  same_both =
      same_test (is_same n m l) (is_rise n m l && is_fall n m l)
      (λ h. and_true (is_rise n m l) (is_fall n m l)
      (rise_true (λ i j. omega (arith, same_at h i j)))
      (fall_true (λ i j. omega (arith, same_at h i j))))
      (λ h. let b = both_true (is_rise n m l) (is_fall n m l) h in
      same_true (λ i j. omega (arith, rise_at b.0 i j, fall_at b.1 i j)))

-- ---- the pairs that are enough to look at
-- The reverse of a listed pair needs no look: where its own metric stays, its usable one can only come and go, and with
-- it that of the listed pair.
reverse_at_most :
    (n : ℕ) (m o : List ℕ) (i j : ℕ)
    → cell width o i j ≡ cell width m i j
    → topology n m j i ≤ topology n o j i
    → topology n m i j ≤ topology n o i j
reverse_at_most n m o i j same back = by_use (dec_lt (topology n o i j) unused)
  where
    by_use : Dec (topology n o i j < unused) → topology n m i j ≤ topology n o i j
    by_use (no u) = omega (arith, topology_top n m i j)
    by_use (yes u) =
        let in-o = metric_link n o i j u in
        let back_used : topology n o j i < unused = rw (link_metric (link_back in-o)) in-o.back_used in
        let in-m = link_back (metric_link n m j i (omega (arith, back, back_used))) in
        omega (arith, link_metric in-m, link_metric in-o, same)

-- two tables that compare as those of a list do, wherever they do so at the listed pairs
listed_at_most :
    (n : ℕ) (m o l : List ℕ)
    → (((e : ℕ) → e < entry_count l → is_at_most n m o (from l e) (to l e) ≡ true)
    → (i j : ℕ) → topology n m i j ≤ topology n o i j)
    → are_listed_at_most n m o l ≡ are_at_most n m o
unfolding are_listed_at_most
listed_at_most n m o l each =
    same_test (are_listed_at_most n m o l) (are_at_most n m o)
    (λ h. at_most_true n m o (each (all_at (entry_count l) (λ e. is_at_most n m o (from l e) (to l e)) h)))
    (λ h. all_true (entry_count l) (λ e. is_at_most n m o (from l e) (to l e))
    (λ e b. le-leb _ _ (at_most_at n m o h (from l e) (to l e))))

module _ (n : ℕ) (m l : List ℕ) (most : n ≤ width) where
  pub listed_rise : are_listed_at_most n m (new_metrics n m l) l ≡ is_rise n m l
  unfolding is_rise
  listed_rise = listed_at_most n m (new_metrics n m l) l each
    where
      each :
          ((e : ℕ) → e < entry_count l → is_at_most n m (new_metrics n m l) (from l e) (to l e) ≡ true)
          → (i j : ℕ) → topology n m i j ≤ topology n (new_metrics n m l) i j
      each h i j = by_case (pair_of n m l most i j)
        where
          by_case : Pair n m l i j → topology n m i j ≤ topology n (new_metrics n m l) i j
          by_case (listed e b f t) = rw (sym f, sym t) (leb-true _ _ (h e b))
          by_case (reversed e b f t same) =
              reverse_at_most n m (new_metrics n m l) i j same (rw (sym f, sym t) (leb-true _ _ (h e b)))
          by_case (untouched same) = omega (arith, same)

  pub listed_fall : are_listed_at_most n (new_metrics n m l) m l ≡ is_fall n m l
  unfolding is_fall
  listed_fall = listed_at_most n (new_metrics n m l) m l each
    where
      each :
          ((e : ℕ) → e < entry_count l → is_at_most n (new_metrics n m l) m (from l e) (to l e) ≡ true)
          → (i j : ℕ) → topology n (new_metrics n m l) i j ≤ topology n m i j
      each h i j = by_case (pair_of n m l most i j)
        where
          by_case : Pair n m l i j → topology n (new_metrics n m l) i j ≤ topology n m i j
          by_case (listed e b f t) = rw (sym f, sym t) (leb-true _ _ (h e b))
          by_case (reversed e b f t same) =
              reverse_at_most n (new_metrics n m l) m i j (sym same) (rw (sym f, sym t) (leb-true _ _ (h e b)))
          by_case (untouched same) = omega (arith, same)
