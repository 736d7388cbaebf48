-- Laws of what Paths answers and fills: those by which the code is proved, and those that callers use.
--
-- The answer is a ladder of three tests. A refusal is that of the first test that fails, and the answer is 0 where none
-- does; read backwards, 0 is none of the refusals, so each test held (`accepted_tests`). The tables are chosen by that
-- answer alone. Where it is 0, a cell of two routers is by definition their distance, their next-hop set and the four
-- lowest of that, and crate topology has the laws that say what these are: the least sum of any walk, and each k by
-- which that sum is met.
--     metric_.., metrics_..                                        the test of the metrics, cell by cell
--     Ready, area_..                                               n routers and a metric table, whatever is lent
--     SizedPaths, sized_paths_.., filled_sized                     the test of the sizes, table by table
--     refused_count, refused_tables, refused_metrics, accepted     the answer, by the three tests
--     tables_kept, tables_filled                                   the tables, by the answer
--     accepted_ready, accepted_sized, ready_accepted               what an accepted input is
--     distance_cell_is, hop_cell_is, four_cell_is                  what its cells are
--     distance_cell_beyond, hop_cell_beyond, four_cell_beyond      and those from n on
--     distance_cell_bound, largest_reached                         the largest real distance
--     judged                                                       what decides an answer
use Rattle.std.specs.Prelude.{ℕ, ◌-◌, ◌≤◌, ◌<◌, ◌≡◌, false, ◌&&◌, ◌||◌, ◌≢◌, ◌↔◌, ◌⊎◌, List, leb, eqb}
use Rattle.std.proofs.Math.Path.{refl}
use Rattle.std.proofs.Common.{◌∙◌, inl, inr, arith}
use Rattle.std.proofs.Math.Bool.{true}
use Rattle.std.proofs.lemmas.Grind.{common_steps}
use borrow.Author.Tests.{leb-true, le-leb, lt-leb, eq-eqb, ne_eqb}
use Rattle.area.specs.Limits.{width, unused, unreached}
use Rattle.area.specs.Refusals.{router_count, bad_metric, table_size}
use Rattle.area.specs.Tables.{cell}
use Rattle.area.specs.Sizes.{is_router_count, is_table}
use Rattle.area.proofs.SizeLaws.{router_count_true, router_count_low, router_count_high}
use Rattle.area.proofs.SizeLaws.{router_count_some, router_count_most, table_true, table_false, table_size_lem}
use Rattle.area.proofs.TestLaws.{look, both_true, and_true, and_false, or_right, all_at, all_true}
use Rattle.sets.specs.Sets.{bit}
use Rattle.sets.specs.Four.{four}
use Rattle.topology.specs.Topology.{topology}
use Rattle.topology.specs.Distance.{distance, IsDistance}
use Rattle.topology.specs.NextHops.{next_hops, Next}
use Rattle.topology.proofs.DistanceLaws.{distance_is, distance_top, distance_bound}
use Rattle.topology.proofs.NextHopLaws.{bit_next, next_set}
use Rattle.topology.proofs.TopologyLaws.{topology_graph}
use Rattle.topology.proofs.LargestLaws.{largest_distance, chain_metrics, chain_size, chain_range, largest_distance_lem}
use Rattle.paths.specs.Paths.{PathTables, is_metric, are_metrics_from, are_metrics, is_area}
use Rattle.paths.specs.Paths.{are_paths, paths_refusal, filled_paths, paths_of}
use Rattle.paths.proofs.FilledLaws.{distances_size, hops_size, fours_size, distances_at, hops_at, fours_cell}
use Rattle.paths.proofs.FilledLaws.{distances_beyond, hops_beyond, fours_beyond}
use Rattle.paths.specs.Ready.{Ready, SizedPaths}

-- ---- refusal 6: one cell
module _ (m : List ℕ) (i j : ℕ) where
  pub metric_own : j ≡ i → (eqb j i || is_metric m i j) ≡ true
  metric_own e = rw (eq-eqb j i e) refl

  pub metric_good : 1 ≤ cell width m i j → cell width m i j ≤ unused → (eqb j i || is_metric m i j) ≡ true
  unfolding is_metric
  metric_good a b =
      rw (le-leb 1 (cell width m i j) a, le-leb (cell width m i j) unused b)
      (or_right (eqb j i) true refl)

  pub metric_low : j ≢ i → cell width m i j < 1 → (eqb j i || is_metric m i j) ≡ false
  unfolding is_metric
  metric_low f a = rw (ne_eqb j i f, lt-leb 1 (cell width m i j) a) refl

  pub metric_high : j ≢ i → unused < cell width m i j → (eqb j i || is_metric m i j) ≡ false
  unfolding is_metric
  metric_high f a =
      rw (ne_eqb j i f, lt-leb (cell width m i j) unused a, le-leb 1 (cell width m i j) (omega arith)) refl

  pub metric_range :
      (eqb j i || is_metric m i j) ≡ true
      → j ≢ i
      → (1 ≤ cell width m i j) × (cell width m i j ≤ unused)
  unfolding is_metric
  metric_range e f =
      let b = both_true (leb 1 (cell width m i j)) (leb (cell width m i j) unused) (rw (ne_eqb j i f) at e) in
      (leb-true 1 (cell width m i j) b.0, leb-true (cell width m i j) unused b.1)

-- valid metrics, pair by pair
pub metrics_at :
    (n : ℕ) (m : List ℕ)
    → are_metrics n m ≡ true
    → (i j : ℕ)
    → i < n
    → j < n
    → j ≢ i
    → (1 ≤ cell width m i j) × (cell width m i j ≤ unused)
unfolding are_metrics
metrics_at n m e i j a b f =
    let row = all_at n (are_metrics_from n m) e i a in
    metric_range m i j (all_at n (λ j. eqb j i || is_metric m i j) row j b) f

pub metrics_true :
    (n : ℕ) (m : List ℕ)
    → ((i j : ℕ) → i < n → j < n → (eqb j i || is_metric m i j) ≡ true)
    → are_metrics n m ≡ true
unfolding are_metrics
metrics_true n m f =
    all_true n (are_metrics_from n m) (λ i a. all_true n (λ j. eqb j i || is_metric m i j) (λ j b. f i j a b))

-- ---- n routers and a metric table, before it is known which tables are lent
module _ (n : ℕ) (m : List ℕ) where
  pub area_uncounted : is_router_count n ≡ false → is_area n m ≡ false
  unfolding is_area
  area_uncounted e = rw e refl

  pub area_unsized : is_table m ≡ false → is_area n m ≡ false
  unfolding is_area
  area_unsized e = and_false (is_router_count n) (is_table m && are_metrics n m) (rw e refl)

  pub area_metrics : is_router_count n ≡ true → is_table m ≡ true → is_area n m ≡ are_metrics n m
  unfolding is_area
  area_metrics a b = rw (a, b) refl

  pub area_ready : is_area n m ≡ true → Ready n m
  unfolding is_area
  area_ready e =
      let t = both_true (is_router_count n) (is_table m && are_metrics n m) e in
      let b = both_true (is_table m) (are_metrics n m) t.1 in
      record {
        some = router_count_some n t.0;
        most = router_count_most n t.0;
        size = table_size_lem m b.0;
        metrics = b.1;
      }

-- ---- each of the tables of a topology has the right size, or one has not
module _ (t : PathTables) where
  pub sized_paths_true : SizedPaths t → are_paths t ≡ true
  unfolding are_paths
  sized_paths_true z =
      rw (table_true t.distances z.distances, table_true t.hops z.hops) (table_true t.fours z.fours)

  pub sized_paths_of : are_paths t ≡ true → SizedPaths t
  unfolding are_paths
  sized_paths_of e =
      let a = both_true (is_table t.distances) (is_table t.hops && is_table t.fours) e in
      let b = both_true (is_table t.hops) (is_table t.fours) a.1 in
      record {
        distances = table_size_lem t.distances a.0;
        hops = table_size_lem t.hops b.0;
        fours = table_size_lem t.fours b.1;
      }

-- the tables of a topology with all their cells have it
pub filled_sized : (n : ℕ) (m : List ℕ) → SizedPaths (filled_paths n m)
filled_sized n m = record { distances = distances_size n m; hops = hops_size n m; fours = fours_size n m }

module _ (n : ℕ) (m : List ℕ) (t : PathTables) where
  -- ---- the refusals, each where it is given
  pub refused_count : is_router_count n ≡ false → paths_refusal n m t ≡ router_count
  unfolding paths_refusal
  refused_count a = rw a refl

  pub refused_tables :
      is_router_count n ≡ true
      → (is_table m && are_paths t) ≡ false
      → paths_refusal n m t ≡ table_size
  unfolding paths_refusal
  refused_tables a b = rw (a, b) refl

  pub refused_metrics :
      is_router_count n ≡ true
      → (is_table m && are_paths t) ≡ true
      → are_metrics n m ≡ false
      → paths_refusal n m t ≡ bad_metric
  unfolding paths_refusal
  refused_metrics a b c = rw (a, b, c) refl

  pub accepted :
      is_router_count n ≡ true
      → (is_table m && are_paths t) ≡ true
      → are_metrics n m ≡ true
      → paths_refusal n m t ≡ 0
  unfolding paths_refusal
  accepted a b c = rw (a, b, c) refl

  -- ---- the tables at exit
  pub tables_kept : paths_refusal n m t ≢ 0 → paths_of n m t ≡ t
  unfolding paths_of
  tables_kept f = rw (ne_eqb (paths_refusal n m t) 0 f) refl

  pub tables_filled : paths_refusal n m t ≡ 0 → paths_of n m t ≡ filled_paths n m
  unfolding paths_of
  tables_filled e = rw (eq-eqb (paths_refusal n m t) 0 e) refl

  -- ---- what callers use: what is known of an input that is accepted, and the cells that it was answered with
  -- the three tests hold
  abbrev pub Passed : Type 0
  Passed = (is_router_count n ≡ true) × ((is_table m && are_paths t) ≡ true) × (are_metrics n m ≡ true)

  pub accepted_tests : paths_refusal n m t ≡ 0 → Passed
  accepted_tests e = by_tests (look (is_router_count n)) (look (is_table m && are_paths t)) (look (are_metrics n m))
    where
      never : {A : Type 0} (k : ℕ) → 1 ≤ k → paths_refusal n m t ≡ k → A
      never k l q = absurd (let x : ⊥ = omega arith in x)

      by_tests :
          (is_router_count n ≡ true) ⊎ (is_router_count n ≡ false)
          → ((is_table m && are_paths t) ≡ true) ⊎ ((is_table m && are_paths t) ≡ false)
          → (are_metrics n m ≡ true) ⊎ (are_metrics n m ≡ false)
          → Passed
      by_tests (inr a) b c = never router_count (omega arith) (refused_count a)
      by_tests (inl a) (inr b) c = never table_size (omega arith) (refused_tables a b)
      by_tests (inl a) (inl b) (inr c) = never bad_metric (omega arith) (refused_metrics a b c)
      by_tests (inl a) (inl b) (inl c) = (a, b, c)

  pub accepted_ready : paths_refusal n m t ≡ 0 → Ready n m
  accepted_ready e =
      let p = accepted_tests e in
      let size = (both_true (is_table m) (are_paths t) p.1).0 in
      area_ready n m (area_metrics n m p.0 size ∙ p.2)

  pub accepted_sized : paths_refusal n m t ≡ 0 → SizedPaths t
  accepted_sized e = sized_paths_of t (both_true (is_table m) (are_paths t) (accepted_tests e).1).1

  pub ready_accepted : Ready n m → SizedPaths t → paths_refusal n m t ≡ 0
  ready_accepted r z =
      accepted (router_count_true n r.some r.most)
      (and_true (is_table m) (are_paths t) (table_true m r.size) (sized_paths_true t z)) r.metrics

  module _ (e : paths_refusal n m t ≡ 0) {i j : ℕ} where
    -- the cells of routers are their distances and next-hop sets
    pub distance_cell_lem : i < n → j < n → cell width (paths_of n m t).distances i j ≡ distance n (topology n m) i j
    distance_cell_lem a b = rw (tables_filled e) (distances_at n m i j (accepted_ready e).most a b)

    pub hop_cell_lem : i < n → j < n → cell width (paths_of n m t).hops i j ≡ next_hops width n (topology n m) i j
    hop_cell_lem a b = rw (tables_filled e) (hops_at n m i j (accepted_ready e).most b)

    -- so the cell of (i, j) is the least sum of a walk of any length, and `unreached` exactly where there is none
    pub distance_cell_is : i < n → j < n → IsDistance (topology n m) i j (cell width (paths_of n m t).distances i j)
    distance_cell_is a b = rw (distance_cell_lem a b) (distance_is (topology_graph n m (accepted_ready e).most) i j)

    -- its next-hop set holds exactly the k whose link from i is used and whose distance to j is less by that
    -- link's metric
    pub hop_cell_is :
        {k : ℕ}
        → i < n
        → j < n
        → k < width
        → (bit (cell width (paths_of n m t).hops i j) k ≡ true) ↔ Next n (topology n m) i j k
    hop_cell_is {k} a b l =
        rw (hop_cell_lem a b) ((λ x. bit_next width n (topology n m) i j k x), (λ x. next_set width l x))

    -- and the set of four beside it holds the four lowest of these
    pub four_cell_is :
        i < width
        → j < width
        → cell width (paths_of n m t).fours i j ≡ four width (cell width (paths_of n m t).hops i j)
    four_cell_is a b = rw (tables_filled e) (fours_cell n m i j b)

    -- no real distance is larger than the largest metric, once for each link of the longest walk without a repeated
    -- router
    pub distance_cell_bound :
        i < n
        → j < n
        → cell width (paths_of n m t).distances i j ≢ unreached
        → cell width (paths_of n m t).distances i j ≤ largest_distance
    distance_cell_bound a b f =
        let most = (accepted_ready e).most in
        let same = distance_cell_lem a b in
        let top = distance_top n (topology n m) i j in
        omega (arith, distance_bound n (topology n m) i j (omega arith))

    -- beyond n
    module _ (a : i < width) (b : j < width) (out : (n ≤ i) ⊎ (n ≤ j)) where
      pub distance_cell_beyond : cell width (paths_of n m t).distances i j ≡ unreached
      distance_cell_beyond = rw (tables_filled e) (distances_beyond n m i j a b out)

      pub hop_cell_beyond : cell width (paths_of n m t).hops i j ≡ 0
      hop_cell_beyond = rw (tables_filled e) (hops_beyond n m i j a b out)

      pub four_cell_beyond : cell width (paths_of n m t).fours i j ≡ 0
      four_cell_beyond = rw (tables_filled e) (fours_beyond n m i j a b out)

-- what decides an answer at each return of `judge` and of `is_area` (src/lib.rt)
pub ruleset judged = (
  refused_count,
  refused_tables,
  refused_metrics,
  accepted,
  area_uncounted,
  area_unsized,
  area_metrics,
  router_count_true,
  router_count_low,
  router_count_high,
  table_true,
  table_false,
  and_true,
  common_steps,
)

-- The largest real distance is that of an area: as many routers as there can be, each linked with the next
-- at the largest metric.
pub largest_reached :
    (t : PathTables)
    → SizedPaths t
    → (paths_refusal width chain_metrics t ≡ 0)
    × (cell width (paths_of width chain_metrics t).distances 0 (width - 1) ≡ largest_distance)
largest_reached t z = (
  chain_accepted,
  distance_cell_lem width chain_metrics t chain_accepted (omega arith) (omega arith) ∙ largest_distance_lem,
)
  where
    chain_ready : Ready width chain_metrics
    chain_ready = record {
      some = omega arith;
      most = omega arith;
      size = chain_size;
      metrics = metrics_true width chain_metrics
          (λ i j x y. let c = chain_range i j x y in metric_good chain_metrics i j c.0 c.1);
    }

    chain_accepted : paths_refusal width chain_metrics t ≡ 0
    chain_accepted = ready_accepted width chain_metrics t chain_ready z
