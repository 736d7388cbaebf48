-- What was read of an input. No contract can say it of `read`, for what a read leaves in the buffer is the system's: a
-- program says what it prints for every input of which this holds.
use Rattle.std.specs.Prelude.{ℕ, ◌≡◌, ◌≤◌, List, length, take}

-- n bytes stand at the start of the list, and `take n` has so many.
abbrev pub IsPrefixLen : (n : ℕ) (l : List ℕ) → Type 0
IsPrefixLen n l = (n ≤ length l) × (n ≡ length (take n l))

-- The first n bytes of the buffer are the first bytes of the input, as many as the buffer has room for.
abbrev pub ReadOf : (input buffer : List ℕ) (n : ℕ) → Type 0
ReadOf input buffer n = take n buffer ≡ take (length buffer) input
