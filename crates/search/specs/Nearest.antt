-- Which router is settled next. The contract of src/nearest.rt cites this; it is no part of what the search promises.
use Rattle.std.specs.Prelude.{ℕ, ◌<◌, ◌≤◌, ◌≡◌, false, List, Option, None, Some, get_or}
use Rattle.area.specs.Limits.{unreached}
use Rattle.sets.specs.Sets.{bit}

-- r is the nearest router that is reached and not in σ, the set of those settled; n where there is none.
-- d holds the distances found so far.
pub record Nearest (n : ℕ) (d : List ℕ) (σ r : ℕ) : Type 0 where
  pub within : r ≤ n
  pub found : r < n → (bit σ r ≡ false) × (get_or d r 0 < unreached)
  pub first :
      (j : ℕ)
      → j < n
      → bit σ j ≡ false
      → get_or d j 0 < unreached
      → (r < n) × (get_or d r 0 ≤ get_or d j 0)

-- the router that was found, and n where there is none
abbrev pub found_or : (n : ℕ) (found : Option ℕ) → ℕ
found_or n None = n
found_or n (Some r) = r
