-- Changes that have no fault.
--     Change n l e         what is known of a change that has no fault
--     Sound                the same of the whole list
use Rattle.std.specs.Prelude.{ℕ, ◌<◌, ◌≡◌, true, ◌≢◌, List}
use Rattle.entries.specs.Entries.{entry_count, from, to, metric, is_first}

pub record Change (n : ℕ) (l : List ℕ) (e : ℕ) : Type 0 where
  pub from_in : from l e < n
  pub to_in : to l e < n
  pub apart : from l e ≢ to l e
  pub some : metric l e ≢ 0
  pub new : is_first l e ≡ true

-- no change of the list has a fault
abbrev pub Sound : (n : ℕ) (l : List ℕ) → Type 0
Sound n l = (e : ℕ) → e < entry_count l → Change n l e
