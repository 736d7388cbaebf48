-- The search for one source (01, "The area and its paths"), on every input: it fills the source's row of either table.
-- n is the number of routers, m the metric table, s the source; d and h are the rows of distances and of next hops that
-- it is lent.
use Rattle.std.specs.Prelude.{ℕ, ◌*◌, Bool, ◌&&◌, List, leb, eqb, length}
use Rattle.area.specs.Limits.{width}
use Rattle.area.specs.Tests.{pick}
use Rattle.area.specs.Tables.{build}
use Rattle.topology.specs.Cells.{distance_cell, hop_cell}

-- The sizes that a search needs: at most `width` routers, a table of so many rows of so many cells, and two rows.
unfoldable pub are_sizes : (n cells distances hops : ℕ) → Bool
are_sizes n cells d h = leb n width && (eqb cells (width * width) && (eqb d width && eqb h width))

-- The two rows when the search returns: the source's where the sizes are right, and as it was lent them where one is
-- wrong. A metric that Paths refuses is that of no link.
unfoldable pub distance_row : (n : ℕ) (m : List ℕ) (s : ℕ) (d h : List ℕ) → List ℕ
distance_row n m s d h = pick (are_sizes n (length m) (length d) (length h)) (build width (distance_cell n m s)) d

unfoldable pub hop_row : (n : ℕ) (m : List ℕ) (s : ℕ) (d h : List ℕ) → List ℕ
hop_row n m s d h = pick (are_sizes n (length m) (length d) (length h)) (build width (hop_cell n m s)) h
