-- The usable metric of a pair of routers, on every input (02, No. 4).
use Rattle.std.specs.Prelude.{ℕ, ◌&&◌, List, leb}
use Rattle.area.specs.Limits.{width, unused}
use Rattle.area.specs.Tests.{pick}
use Rattle.area.specs.Sizes.{is_table}
use Rattle.topology.specs.Topology.{topology}

-- that of the topology, and `unused` where n is too large or m has not the size of a table
unfoldable pub usable : (n : ℕ) (m : List ℕ) (i j : ℕ) → ℕ
usable n m i j = pick (leb n width && is_table m) (topology n m i j) unused
