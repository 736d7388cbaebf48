-- The topology that a metric table describes (01, "The area and its paths"; 02, No. 4).
use Rattle.std.specs.Prelude.{ℕ, Bool, not, ◌&&◌, List, ltb, leb, eqb}
use Rattle.area.specs.Limits.{width, unused}
use Rattle.area.specs.Tests.{pick}
use Rattle.area.specs.Tables.{cell}

-- A topology g is known by its links: g i k is the metric of the link from i to k, and `unused` where none is used.
-- Walks, distances and next hops are over any such g.
abbrev pub Topology : Type 0
Topology = ℕ → ℕ → ℕ

-- a metric that a link can be used at: neither 0 nor the value for "not used"
abbrev pub is_used : (x : ℕ) → Bool
is_used x = leb 1 x && ltb x unused

-- The link from i to j is used, in an area of n routers with the metric table m: two different routers of the area,
-- with such a metric in both directions (02, No. 4).
unfoldable pub is_link : (n : ℕ) (m : List ℕ) (i j : ℕ) → Bool
is_link n m i j =
    ltb i n && (ltb j n && (not (eqb i j) && (is_used (cell width m i j) && is_used (cell width m j i))))

-- The topology of this area: the usable metric of (i, j) is the table's where the link is used.
unfoldable pub topology : (n : ℕ) (m : List ℕ) → Topology
topology n m i j = pick (is_link n m i j) (cell width m i j) unused

-- a topology with every link turned round
abbrev pub turned : (g : Topology) → Topology
turned g i j = g j i
