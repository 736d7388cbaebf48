-- The metrics after the change (01, "The plan"). n is the number of routers, m the old metric table, l the change list.
use Rattle.std.specs.Prelude.{ℕ, not, ◌&&◌, List, ltb, eqb}
use Rattle.area.specs.Limits.{width, unused}
use Rattle.area.specs.Tests.{pick}
use Rattle.area.specs.Tables.{cell, tabulate}
use Rattle.entries.specs.Entries.{entry_count, listed_metric}

-- The new metric of (i, j): that of the change of this pair, and the old one where there is no such change; `unused` on
-- the diagonal and beyond n, whatever the old table has there.
unfoldable pub new_cell : (n : ℕ) (m l : List ℕ) (i j : ℕ) → ℕ
new_cell n m l i j =
    pick (ltb i n && (ltb j n && not (eqb i j)))
    (listed_metric l (entry_count l) i j (cell width m i j))
    unused

unfoldable pub new_metrics : (n : ℕ) (m l : List ℕ) → List ℕ
new_metrics n m l = tabulate width (new_cell n m l)
