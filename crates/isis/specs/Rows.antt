-- What the functions that fill the metric table promise; no part of what the crate promises.
use Rattle.std.specs.Prelude.{ℕ, List, get_or}
use Rattle.area.specs.Limits.{width}
use Rattle.area.specs.Tables.{build}
use Rattle.tlv.specs.Items.{items}
use Rattle.isis.specs.Lists.{lowest_to}

-- a row lowered by the metrics of the list l
unfoldable pub lowered_row : (t l row : List ℕ) → List ℕ
lowered_row t l row = build width (λ j. lowest_to t j (get_or row j 0) (items l))
