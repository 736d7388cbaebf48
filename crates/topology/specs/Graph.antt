use Rattle.std.specs.Prelude.{ℕ, ◌≤◌, ◌<◌}
use Rattle.area.specs.Limits.{unused}
use Rattle.topology.specs.Topology.{Topology}

-- With at most 256 routers the sum of n - 1 metrics stays below `unreached`.
pub record Graph (n : ℕ) (g : Topology) : Type 0 where
  pub few : n ≤ 256
  pub inside : (i k : ℕ) → g i k < unused → (i < n) × (k < n)
  pub positive : (i k : ℕ) → g i k < unused → 1 ≤ g i k
