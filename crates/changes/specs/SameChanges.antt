-- The set of changes of a list, whatever their order (02, No. 2).
use Rattle.std.specs.Prelude.{ℕ, ◌<◌, ◌≡◌, true, List}
use Rattle.entries.specs.Entries.{entry_count, entry_of, is_first}

-- every change of l is one of k, with the same ends and the same metric, at whatever place
abbrev pub Within : (l k : List ℕ) → Type 0
Within l k = (e : ℕ) → e < entry_count l → (d : ℕ) × (d < entry_count k) × (entry_of k d ≡ entry_of l e)

-- l and k have the same set of changes
abbrev pub SameChanges : (l k : List ℕ) → Type 0
SameChanges l k = Within l k × Within k l

-- no two changes of l are of the same pair
abbrev pub Once : (l : List ℕ) → Type 0
Once l = (e : ℕ) → e < entry_count l → is_first l e ≡ true
