-- The live links of a list, which are those that are not dead (02, No. 5). l is the bytes from the first link on.
use Rattle.std.specs.Prelude.{ℕ, zero, suc, ◌*◌, List, [], ◌++◌, take, drop}
use Rattle.area.specs.Tests.{pick}
use Rattle.entries.specs.Entries.{entry_of}
use Rattle.bench_file.specs.Faults.{is_dead}

-- the five bytes of link e
abbrev pub bytes_of : (l : List ℕ) (e : ℕ) → List ℕ
bytes_of l e = take 5 (drop (5 * e) l)

-- its bytes where it is live, and none where it is dead
abbrev pub kept_of : (l : List ℕ) (e : ℕ) → List ℕ
kept_of l e = pick (is_dead (entry_of l e)) [] (bytes_of l e)

-- those of the first k links that are live, one after another, and how many they are
unfoldable pub live : (l : List ℕ) (k : ℕ) → List ℕ
live l zero = []
live l (suc k) = live l k ++ kept_of l k

unfoldable pub live_count : (l : List ℕ) (k : ℕ) → ℕ
live_count l zero = 0
live_count l (suc k) = pick (is_dead (entry_of l k)) (live_count l k) (suc (live_count l k))
