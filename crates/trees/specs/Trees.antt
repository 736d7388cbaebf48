-- The trees from the destinations (02, No. 11), on every input: a table of distances and a table of next-hop sets.
-- n is the number of routers, m the metric table; d and h are the two tables that are lent.
use Rattle.std.specs.Prelude.{ℕ, ◌*◌, Bool, ◌&&◌, List, leb, eqb, length}
use Rattle.area.specs.Limits.{width}
use Rattle.area.specs.Tests.{pick}
use Rattle.area.specs.Tables.{tabulate}
use Rattle.topology.specs.Cells.{distance_cell, hop_cell}

-- The sizes that a search needs: at most `width` routers, and three tables of so many rows of so many cells.
unfoldable pub are_sizes : (n cells distances hops : ℕ) → Bool
are_sizes n cells d h =
    leb n width && (eqb cells (width * width) && (eqb d (width * width) && eqb h (width * width)))

-- The two tables at the end: every cell filled where the sizes are right, and as they were lent where one is wrong. A
-- metric that Paths refuses is that of no link.
unfoldable pub distance_table : (n : ℕ) (m d h : List ℕ) → List ℕ
distance_table n m d h =
    pick (are_sizes n (length m) (length d) (length h)) (tabulate width (distance_cell n m)) d

unfoldable pub hop_table : (n : ℕ) (m d h : List ℕ) → List ℕ
hop_table n m d h =
    pick (are_sizes n (length m) (length d) (length h)) (tabulate width (hop_cell n m)) h
