-- The cells of a distance table and of the two tables of next-hop sets (01, "The area and its paths"; 02, No. 9).
use Rattle.std.specs.Prelude.{ℕ, ◌&&◌, List, ltb}
use Rattle.area.specs.Limits.{width, unreached}
use Rattle.area.specs.Tests.{pick}
use Rattle.sets.specs.Four.{four}
use Rattle.topology.specs.Topology.{topology}
use Rattle.topology.specs.Distance.{distance}
use Rattle.topology.specs.NextHops.{next_hops}

-- The cell (i, j) of each, for n routers with the metric table m: of two routers their distance and their next-hop set;
-- with a row or a column from n on, no walk and no next hop.
unfoldable pub distance_cell : (n : ℕ) (m : List ℕ) (i j : ℕ) → ℕ
distance_cell n m i j = pick (ltb i n && ltb j n) (distance n (topology n m) i j) unreached

unfoldable pub hop_cell : (n : ℕ) (m : List ℕ) (i j : ℕ) → ℕ
hop_cell n m i j = pick (ltb i n && ltb j n) (next_hops width n (topology n m) i j) 0

-- the set of four beside the full set: its four lowest numbers, which a line card holds
unfoldable pub four_cell : (n : ℕ) (m : List ℕ) (i j : ℕ) → ℕ
four_cell n m i j = four width (hop_cell n m i j)
