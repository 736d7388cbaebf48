-- A text in hexadecimal: pairs of digits, each pair a byte; white space between pairs; and comments, from `#` up to the
-- end of the line. What a byte of the text is, by the bytes before it, is its reading: `Reading` is the enum of
-- src/lib.rt. At the end: how a text is told from a binary file.
use Rattle.std.specs.Prelude.{ℕ, ◌+◌, ◌*◌, ◌-◌, Bool, true, false, cond, not, ◌&&◌, ◌||◌, List, [], ◌∷◌, ◌++◌, ltb, leb}
use Rattle.std.specs.Prelude.{eqb, length}
use Rattle.std.specs.declared.result.Result.{Result}
use Rattle.std.specs.declared.result.Result.TheVariants.{Ok, Err}
use Rattle.text.specs.Text.{word, line}
use Rattle.hexadecimal.specs.declared.Reading.{Reading}
use Rattle.hexadecimal.specs.declared.Reading.TheVariants.{Between, Comment, High, Byte, Bad, Odd}

-- A longer text is not decoded.
abbrev pub most : ℕ
most = 262144

-- a byte from `low` up to `high`
abbrev pub within : (low high b : ℕ) → Bool
within low high b = leb low b && leb b high

-- the value of a hexadecimal digit, `0` to `9`, `A` to `F` and `a` to `f`; 16 for every other byte
unfoldable pub digit : (b : ℕ) → ℕ
digit b =
    cond (within 48 57 b) (b - 48)
    (cond (within 65 70 b) (b - 55)
    (cond (within 97 102 b) (b - 87)
    16))

-- white space: the bytes 9 to 13, and the space
unfoldable pub is_space : (b : ℕ) → Bool
is_space b = within 9 13 b || eqb b 32

-- The reading of the byte b where a pair may start: a first digit, white space, the start of a comment, or a fault.
unfoldable pub first : (b : ℕ) → Reading
first b =
    cond (ltb (digit b) 16) (High (digit b))
    (cond (is_space b) Between
    (cond (eqb b 35) Comment
    Bad))

-- The reading of the byte b after the first digit of a pair, h: a whole byte, or a fault.
unfoldable pub second : (h b : ℕ) → Reading
second h b =
    cond (ltb (digit b) 16) (Byte (16 * h + digit b))
    (cond (is_space b || eqb b 35) Odd
    Bad)

-- The reading of the byte b by that of the byte before it. A comment lasts up to the end of its line, byte 10.
unfoldable pub next : (before : Reading) (b : ℕ) → Reading
next Between b = first b
next Comment b = cond (eqb b 10) Between Comment
next (High h) b = second h b
next (Byte x) b = first b
next Bad b = Bad
next Odd b = Odd

-- the byte that ends with a reading
unfoldable pub byte_of : (r : Reading) → List ℕ
byte_of Between = []
byte_of Comment = []
byte_of (High h) = []
byte_of (Byte x) = x ∷ []
byte_of Bad = []
byte_of Odd = []

-- the names of the faults, and what is written for a text that is too long
abbrev pub bad_digit : List ℕ
bad_digit = word "bad digit at "

abbrev pub odd_digit : List ℕ
odd_digit = word "odd digit at "

abbrev pub too_long : List ℕ
too_long = word "too long\n"

-- The output, where the byte at place `at` was read so: the line of a fault, and without one what comes of the rest.
-- A lone digit stands just before `at`.
unfoldable pub unless_fault : (at : ℕ) (r : Reading) (rest : List ℕ) → List ℕ
unless_fault at Between rest = rest
unless_fault at Comment rest = rest
unless_fault at (High h) rest = rest
unless_fault at (Byte x) rest = rest
unless_fault at Bad rest = line bad_digit at
unless_fault at Odd rest = line odd_digit (at - 1)

-- The output of a text whose bytes from place `at` on are given, by the reading of the byte before them and the bytes
-- decoded so far. The end of the text reads as the end of a line.
unfoldable pub decode : (done : List ℕ) (at : ℕ) (before : Reading) (l : List ℕ) → List ℕ
decode done at before [] = unless_fault at (next before 10) done
decode done at before (b ∷ l) =
    unless_fault at (next before b)
    (decode (done ++ byte_of (next before b)) (at + 1) (next before b) l)

-- The output of a text that is not too long.
unfoldable pub decoded : (text : List ℕ) → List ℕ
decoded text = decode [] 0 Between text

-- Everything that is written for a text.
unfoldable pub unhexed : (text : List ℕ) → List ℕ
unhexed text = cond (ltb most (length text)) too_long (decoded text)

-- ---- texts with a fault
-- the readings that are faults
unfoldable pub is_fault : (r : Reading) → Bool
is_fault Between = false
is_fault Comment = false
is_fault (High h) = false
is_fault (Byte x) = false
is_fault Bad = true
is_fault Odd = true

-- Is a byte read as a fault, or the end of the text? `before` is the reading of the byte before the given ones.
unfoldable pub has_fault : (before : Reading) (l : List ℕ) → Bool
has_fault before [] = is_fault (next before 10)
has_fault before (b ∷ l) = is_fault (next before b) || has_fault (next before b) l

-- A text that is too long, or has a fault: what is written for it is the line that says so.
unfoldable pub is_faulty : (text : List ℕ) → Bool
is_faulty text = ltb most (length text) || has_fault Between text

-- the length of what is written, of bytes or of a line
abbrev pub length_of : (r : Result ℕ ℕ) → ℕ
length_of (Ok n) = n
length_of (Err n) = n

-- the bytes that the pairs of a text stand for
unfoldable pub bytes_of : (before : Reading) (l : List ℕ) → List ℕ
bytes_of before [] = []
bytes_of before (b ∷ l) = byte_of (next before b) ++ bytes_of (next before b) l

-- ---- texts and binary files
-- a control byte other than white space
unfoldable pub is_control : (b : ℕ) → Bool
is_control b = ltb b 32 && not (is_space b)

-- a text has none
unfoldable pub is_text : (l : List ℕ) → Bool
is_text [] = true
is_text (b ∷ l) = not (is_control b) && is_text l
