-- Numbers in a list of bytes, high byte first. A byte that is not there is 0.
use Rattle.std.specs.Prelude.{ℕ, ◌+◌, ◌*◌, List, get_or}

-- the number in the two bytes at place p
abbrev pub two : (l : List ℕ) (p : ℕ) → ℕ
two l p = 256 * get_or l p 0 + get_or l (p + 1) 0

-- in three, as metrics are
abbrev pub three : (l : List ℕ) (p : ℕ) → ℕ
three l p = 65536 * get_or l p 0 + 256 * get_or l (p + 1) 0 + get_or l (p + 2) 0
