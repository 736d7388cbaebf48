-- The root of a change list l (01, "The plan", "Root c", and 02, No. 2).
use Rattle.std.specs.Prelude.{ℕ, min, max, Bool, ◌||◌, List, eqb}
use Rattle.area.specs.Tests.{pick, all}
use Rattle.entries.specs.Entries.{entry_count, from, to}

-- router c is an end of every change
unfoldable pub is_common : (l : List ℕ) (c : ℕ) → Bool
is_common l c = all (entry_count l) (λ e. eqb (from l e) c || eqb (to l e) c)

-- the two ends of the first change, by their numbers
abbrev pub lower_end : (l : List ℕ) → ℕ
lower_end l = min (from l 0) (to l 0)

abbrev pub upper_end : (l : List ℕ) → ℕ
upper_end l = max (from l 0) (to l 0)

-- The lower end of the first change where it is an end of every change, and else the upper end. RootLaws.antt: where
-- any router is an end of every change, this one is (`common_root`), and none with a lower number is (`root_least`).
unfoldable pub root : (l : List ℕ) → ℕ
root l = pick (is_common l (lower_end l)) (lower_end l) (upper_end l)
