-- The largest real distance (01, "The area and its paths") is the largest metric, once for each link of the longest
-- walk that meets no router twice. No distance is larger: `distance_bound` of DistanceLaws.antt. Here is an area that
-- has it: as many routers as there can be, one behind another, each linked with the next at the largest metric.
--     chain_metrics             its metric table
--     chain_size, chain_range  it has the size of a table, and every metric is one that Paths takes
--     chain_distance           the distance from i to a later j is j - i times the largest metric
--     largest_distance_lem         so from the first router to the last it is `largest_distance`: 1,056,964,482
-- A link leads at most one router further, so a walk from i to j takes at least j - i links, and the walk along the
-- chain takes no more.
use Rattle.std.specs.Prelude.{ℕ, zero, suc, ◌+◌, ◌-◌, ◌*◌, ◌≤◌, ◌<◌, ◌≡◌, refl, Bool, true, false, ◌||◌, List, eqb}
use Rattle.std.specs.Prelude.{length}
use Rattle.std.proofs.Common.{subst, ◌∙◌, ⊎_elim, arith, eqb-true, eq-eqb}
use Rattle.area.specs.Limits.{width, unused}
use Rattle.area.specs.Tests.{pick}
use Rattle.area.proofs.TestLaws.{look, or_cases, or_right}
use Rattle.area.specs.Tables.{cell, tabulate}
use Rattle.area.proofs.TableLaws.{length_tabulate, cell_tabulate}
use Rattle.topology.specs.Topology.{Topology, topology}
use Rattle.topology.specs.Walk.{Walk, stay, link, sum}
use Rattle.topology.specs.Distance.{IsDistance, reached, distance}
use Rattle.topology.proofs.DistanceLaws.{distance_is, same_distance}
use Rattle.topology.proofs.TopologyLaws.{Link, link_metric, metric_link, topology_graph}

-- the largest metric of a link that is used
abbrev pub largest_metric : ℕ
largest_metric = unused - 1

-- the largest real distance
abbrev pub largest_distance : ℕ
largest_distance = (width - 1) * largest_metric

-- the metric of (i, j): the largest one between neighbours, and no link otherwise
unfoldable pub chain_metric : (i j : ℕ) → ℕ
chain_metric i j = pick (eqb j (i + 1) || eqb i (j + 1)) largest_metric unused

unfoldable pub chain_metrics : List ℕ
chain_metrics = tabulate width chain_metric

-- ---- the metrics
metric_next : (i : ℕ) → chain_metric i (i + 1) ≡ largest_metric
unfolding chain_metric
metric_next i = rw (eq-eqb (i + 1) (i + 1) refl) refl

metric_back : (i : ℕ) → chain_metric (i + 1) i ≡ largest_metric
unfolding chain_metric
metric_back i = rw (or_right (eqb i (i + 1 + 1)) (eqb (i + 1) (i + 1)) (eq-eqb (i + 1) (i + 1) refl)) refl

-- a used link leads at most one router further
metric_used : (i j : ℕ) → chain_metric i j < unused → (j ≤ i + 1) × (chain_metric i j ≡ largest_metric)
unfolding chain_metric
metric_used i j u =
    ⊎_elim
    (λ e. (
      ⊎_elim
          (λ t. omega (arith, eqb-true j (i + 1) t))
          (λ t. omega (arith, eqb-true i (j + 1) t))
          (or_cases (eqb j (i + 1)) (eqb i (j + 1)) e),
      rw e refl,
    ))
    (λ e. absurd (let x = rw e at u in let y : ⊥ = omega arith in y))
    (look (eqb j (i + 1) || eqb i (j + 1)))

metric_range : (i j : ℕ) → (1 ≤ chain_metric i j) × (chain_metric i j ≤ unused)
unfolding chain_metric
metric_range i j = by_test (eqb j (i + 1) || eqb i (j + 1))
  where
    by_test : (t : Bool) → (1 ≤ pick t largest_metric unused) × (pick t largest_metric unused ≤ unused)
    by_test true = (omega arith, omega arith)
    by_test false = (omega arith, omega arith)

pub chain_size : length chain_metrics ≡ width * width
unfolding chain_metrics
chain_size = length_tabulate width chain_metric

chain_cell : (i j : ℕ) → i < width → j < width → cell width chain_metrics i j ≡ chain_metric i j
unfolding chain_metrics
chain_cell = cell_tabulate width chain_metric

pub chain_range : (i j : ℕ) → i < width → j < width
    → (1 ≤ cell width chain_metrics i j) × (cell width chain_metrics i j ≤ unused)
chain_range i j a b = rw (chain_cell i j a b) (metric_range i j)

-- ---- the topology
abbrev pub chain_topology : Topology
chain_topology = topology width chain_metrics

link_used : (i k : ℕ) → chain_topology i k < unused → (k ≤ i + 1) × (chain_topology i k ≡ largest_metric)
link_used i k u =
    let l = metric_link width chain_metrics i k u in
    let same = link_metric l ∙ chain_cell i k l.from l.to in
    rw same (metric_used i k (rw same at u))

link_next : (i : ℕ) → i + 1 < width → chain_topology i (i + 1) ≡ largest_metric
link_next i h =
    let same = chain_cell i (i + 1) (omega arith) h ∙ metric_next i in
    let back = chain_cell (i + 1) i h (omega arith) ∙ metric_back i in
    let l : Link width chain_metrics i (i + 1) = record {
      from = omega arith;
      to = h;
      other = λ e. let x : ⊥ = omega arith in x;
      positive = omega arith;
      used = omega arith;
      back_positive = omega arith;
      back_used = omega arith;
    } in
    link_metric l ∙ same

-- ---- walks
-- no walk from i to j has a smaller sum
walk_least : {i j : ℕ} (w : Walk chain_topology i j) → (j - i) * largest_metric ≤ sum w
walk_least stay = omega arith
walk_least (link {i} {k} u w) = omega (arith, link_used i k u, walk_least w)

-- the walk along the chain
walk_along : (far i j : ℕ) → i + far ≡ j → j < width
    → (w : Walk chain_topology i j) × (sum w ≡ far * largest_metric)
walk_along zero i j e h =
    let here : i ≡ j = omega arith in
    subst (λ (x : ℕ). (w : Walk chain_topology i x) × (sum w ≡ 0 * largest_metric)) here (stay, refl)
walk_along (suc far) i j e h =
    let next = link_next i (omega arith) in
    let rest = walk_along far (i + 1) j (omega arith) h in
    let used : chain_topology i (i + 1) < unused = omega arith in
    (link used rest.0, omega (arith, rest.1))

-- ---- distances
pub chain_distance : (i j : ℕ) → i ≤ j → j < width → IsDistance chain_topology i j ((j - i) * largest_metric)
chain_distance i j a b =
    let along = walk_along (j - i) i j (omega arith) b in
    reached along.0 along.1 walk_least (omega arith)

pub largest_distance_lem : distance width chain_topology 0 (width - 1) ≡ largest_distance
largest_distance_lem =
    same_distance (distance_is (topology_graph width chain_metrics (omega arith)) 0 (width - 1))
    (chain_distance 0 (width - 1) (omega arith) (omega arith))
