-- The cells of the tables that Plan fills, for an area of n routers with the old metrics m and the change list l.
--     filled_old_hops, filled_new_hops             the next hops to a router, from any other
--     filled_old_fours, filled_new_fours           of these the sets of four
--     filled_old_distance, filled_new_distance     the distances of two routers in the two topologies
--     filled_beyond                                the cells with a row or a column from n on: `unreached`, 0 and 0
-- The tables of each topology are those that Paths fills (FilledLaws.antt of crate paths).
use Rattle.std.specs.Prelude.{ℕ, ◌≤◌, ◌<◌, ◌≡◌, ◌⊎◌, List}
use Rattle.area.specs.Limits.{width, unreached}
use Rattle.area.specs.Tables.{cell}
use Rattle.topology.specs.Topology.{topology}
use Rattle.topology.specs.Distance.{distance}
use Rattle.paths.specs.Paths.{PathTables}
use Rattle.paths.proofs.FilledLaws.{distances_at, hops_at, fours_at, distances_beyond, hops_beyond, fours_beyond}
use Rattle.plan.specs.NewMetrics.{new_metrics}
use Rattle.plan.specs.Waiting.{old_hops, new_hops, old_fours, new_fours}
use Rattle.plan.specs.Plan.{filled}

module _ (n : ℕ) (m l : List ℕ) where
  module _ (most : n ≤ width) (i j : ℕ) where
    pub filled_old_hops : j < n → cell width (filled n m l).old.hops i j ≡ old_hops n m i j
    unfolding filled old_hops
    filled_old_hops = hops_at n m i j most

    pub filled_new_hops : j < n → cell width (filled n m l).new.hops i j ≡ new_hops n m l i j
    unfolding filled new_hops
    filled_new_hops = hops_at n (new_metrics n m l) i j most

    pub filled_old_fours : j < n → cell width (filled n m l).old.fours i j ≡ old_fours n m i j
    unfolding filled old_fours old_hops
    filled_old_fours = fours_at n m i j most

    pub filled_new_fours : j < n → cell width (filled n m l).new.fours i j ≡ new_fours n m l i j
    unfolding filled new_fours new_hops
    filled_new_fours = fours_at n (new_metrics n m l) i j most

    pub filled_old_distance :
        i < n → j < n
        → cell width (filled n m l).old.distances i j ≡ distance n (topology n m) i j
    unfolding filled
    filled_old_distance = distances_at n m i j most

    pub filled_new_distance :
        i < n → j < n
        → cell width (filled n m l).new.distances i j ≡ distance n (topology n (new_metrics n m l)) i j
    unfolding filled
    filled_new_distance = distances_at n (new_metrics n m l) i j most

  -- from n on, in either topology
  abbrev Blank : (t : PathTables) (i j : ℕ) → Type 0
  Blank t i j =
      (cell width t.distances i j ≡ unreached) × (cell width t.hops i j ≡ 0) × (cell width t.fours i j ≡ 0)

  pub filled_beyond :
      (i j : ℕ)
      → i < width
      → j < width
      → (n ≤ i) ⊎ (n ≤ j)
      → Blank (filled n m l).old i j × Blank (filled n m l).new i j
  unfolding filled
  filled_beyond i j a b out =
      let new = new_metrics n m l in (
        (distances_beyond n m i j a b out, hops_beyond n m i j a b out, fours_beyond n m i j a b out),
        (distances_beyond n new i j a b out, hops_beyond n new i j a b out, fours_beyond n new i j a b out),
      )
