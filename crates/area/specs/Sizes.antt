-- The sizes that a call checks first (01, "The area and its paths").
use Rattle.std.specs.Prelude.{ℕ, ◌*◌, Bool, ◌&&◌, List, leb, eqb, length}
use Rattle.area.specs.Limits.{width}

-- An area has 1 to `width` routers.
unfoldable pub is_router_count : (n : ℕ) → Bool
is_router_count n = leb 1 n && leb n width

-- A table has `width` rows of `width` cells.
unfoldable pub is_table : (t : List ℕ) → Bool
is_table t = eqb (length t) (width * width)
