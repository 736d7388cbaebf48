use Rattle.std.specs.Prelude.{ℕ, ◌<◌, ◌≡◌, not, List, length, get_or}
use Rattle.area.specs.Limits.{width}
use Rattle.sets.specs.Sets.{bit}
use Rattle.entries.specs.Entries.{is_free}

pub record Seen (l : List ℕ) (k : ℕ) (s : List ℕ) : Type 0 where
  pub size : length s ≡ width
  pub pairs : (i j : ℕ) → i < width → j < width → bit (get_or s i 0) j ≡ not (is_free l k i j)
