-- What the program writes for an input, a list of bytes.
use Rattle.std.specs.Prelude.{ℕ, ◌+◌, Bool, cond, ◌&&◌, List, take}
use Rattle.hexadecimal.specs.Hex.{most, unhexed, is_faulty, is_text}

-- What is read of it: one byte more than a text may have, so that a longer one is seen to be too long.
abbrev pub part : (input : List ℕ) → List ℕ
part input = take (most + 1) input

-- What is written: the bytes that a text stands for, or the line of its fault; what is no text, as it was read.
unfoldable pub written : (input : List ℕ) → List ℕ
written input = cond (is_text (part input)) (unhexed input) (part input)

-- Is that the line of a fault? It goes to standard error, and all else to standard output.
unfoldable pub is_error : (input : List ℕ) → Bool
is_error input = is_text (part input) && is_faulty input
