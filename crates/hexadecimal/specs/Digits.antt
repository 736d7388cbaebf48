-- Bytes as digits: how the programs print what is to be read as a text in hexadecimal.
use Rattle.std.specs.Prelude.{ℕ, ◌+◌, ◌/◌, ◌%◌, List, [], ◌∷◌, ◌++◌, ltb}
use Rattle.area.specs.Tests.{pick}

-- the digit of a number below 16, in capitals
unfoldable pub hex_digit : (d : ℕ) → ℕ
hex_digit d = pick (ltb d 10) (48 + d) (55 + d)

-- the two digits of a byte
unfoldable pub hex_byte : (x : ℕ) → List ℕ
hex_byte x = hex_digit (x / 16) ∷ hex_digit (x % 16) ∷ []

-- two digits for each byte of a list
unfoldable pub hexed : (l : List ℕ) → List ℕ
hexed [] = []
hexed (x ∷ l) = hex_byte x ++ hexed l
