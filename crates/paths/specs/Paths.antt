-- Paths (01, "The area and its paths"): its answer, and what its tables hold when it returns, on every input.
-- n is the number of routers, m the metric table, t are the tables that it is lent.
-- What a distance and a next-hop set are, and the cells that hold them, is in crate topology (specs/Cells.antt).
use Rattle.std.specs.Prelude.{ℕ, ◌≡◌, Bool, not, ◌&&◌, ◌||◌, List, leb, eqb}
use Rattle.area.specs.Limits.{width, unused}
use Rattle.area.specs.Refusals.{router_count, bad_metric, table_size}
use Rattle.area.specs.Tests.{pick, all}
use Rattle.area.specs.Sizes.{is_router_count, is_table}
use Rattle.area.specs.Tables.{cell, tabulate}
use Rattle.topology.specs.Cells.{distance_cell, hop_cell, four_cell}
use Rattle.paths.specs.declared.Topology.{Topology}

-- a metric is 1 to `unused`
abbrev pub in_range : (metric : ℕ) → Bool
in_range k = leb 1 k && leb k unused

-- that of (i, j) is
unfoldable pub is_metric : (m : List ℕ) (i j : ℕ) → Bool
is_metric m i j = in_range (cell width m i j)

-- Every link from router i has such a metric. The diagonal, and what lies beyond n, is not looked at.
abbrev pub are_metrics_from : (n : ℕ) (m : List ℕ) (i : ℕ) → Bool
are_metrics_from n m i = all n (λ j. eqb j i || is_metric m i j)

-- Every ordered pair of different routers has such a metric.
unfoldable pub are_metrics : (n : ℕ) (m : List ℕ) → Bool
are_metrics n m = all n (λ i. are_metrics_from n m i)

-- The tables of one topology: its distances, its next-hop sets, and of each of these the set of four (02, No. 9).
pub record PathTables : Type 0 where
  pub distances : List ℕ
  pub hops : List ℕ
  pub fours : List ℕ

-- what three lent slices hold
abbrev pub paths_in : (distances hops fours : List ℕ) → PathTables
paths_in d h f = record { distances = d; hops = h; fours = f }

-- what the tables hold that Paths is lent (`Topology` is the struct of src/lib.rt)
abbrev pub held : (t : Topology) → PathTables
held t = paths_in t.dist.now t.hops.now t.fours.now

-- They are the same tables still, whatever they hold: none was put in the place of another.
abbrev pub AreSame : (t u : Topology) → Type 0
AreSame t u =
    (u.dist.ghost_name ≡ t.dist.ghost_name)
    × (u.hops.ghost_name ≡ t.hops.ghost_name)
    × (u.fours.ghost_name ≡ t.fours.ghost_name)

-- each of the three has the size of a table
unfoldable pub are_paths : (t : PathTables) → Bool
are_paths t = is_table t.distances && (is_table t.hops && is_table t.fours)

-- The number of the first refusal that applies, in the order 3, 8, 6; 0 where the input is accepted.
unfoldable pub paths_refusal : (n : ℕ) (m : List ℕ) (t : PathTables) → ℕ
paths_refusal n m t =
    pick (not (is_router_count n)) router_count
    (pick (not (is_table m && are_paths t)) table_size
    (pick (not (are_metrics n m)) bad_metric
    0))

-- The tables of a topology with all their cells, those beyond n too.
unfoldable pub filled_paths : (n : ℕ) (m : List ℕ) → PathTables
filled_paths n m = record {
  distances = tabulate width (distance_cell n m);
  hops = tabulate width (hop_cell n m);
  fours = tabulate width (four_cell n m);
}

-- The tables when Paths returns: filled where it accepts, and as it was lent them where it refuses.
unfoldable pub paths_of : (n : ℕ) (m : List ℕ) (t : PathTables) → PathTables
paths_of n m t = pick (eqb (paths_refusal n m t) 0) (filled_paths n m) t

-- n routers and a metric table for which Paths has no refusal, whatever tables of the right size it is lent.
unfoldable pub is_area : (n : ℕ) (m : List ℕ) → Bool
is_area n m = is_router_count n && (is_table m && are_metrics n m)
