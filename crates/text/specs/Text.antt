-- A text is the first bytes of a buffer. Bytes are appended to it as far as the buffer has room.
use Rattle.std.specs.Prelude.{ℕ, zero, suc, ◌+◌, ◌/◌, ◌%◌, ◌≤◌, ◌≡◌, cond, List, [], ◌∷◌, ◌++◌, ltb, length, take}
use Prim.Native.Char.{code}
use Prim.Native.String as str
use Rattle.text.specs.declared.writer.Writer.{Writer}

-- The text of the first `at` bytes of `before`, and `bytes` after it, is the first r bytes of `after`; what does not
-- fit is left off. `counted` follows from `within`: it stands here so that a caller's `&out[..r]` needs no proof file.
pub record Appended (before : List ℕ) (at : ℕ) (bytes : List ℕ) (after : List ℕ) (r : ℕ) : Type 0 where
  pub size : length after ≡ length before
  pub within : r ≤ length after
  pub counted : r ≡ length (take r after)
  pub text : take r after ≡ take (length before) (take at before ++ bytes)

-- A writer has appended `bytes` to its text: w is the writer before, v after. It writes to the same buffer still.
pub record Writes (w : Writer) (bytes : List ℕ) (v : Writer) : Type 0 where
  pub same : v.out.ghost_name ≡ w.out.ghost_name
  pub appended : Appended w.out.now w.at bytes v.out.now v.at

-- the bytes of a word in ASCII
abbrev pub word : (s : str.String) → List ℕ
word str.[] = []
word (str.◌∷◌ c s) = code c ∷ word s

-- the digits of x in ASCII, at most k of them, the most significant first, with no zero in front
unfoldable pub digits : (k x : ℕ) → List ℕ
digits zero x = []
digits (suc k) x = cond (ltb x 10) ((48 + x) ∷ []) (digits k (x / 10) ++ ((48 + x % 10) ∷ []))

-- x in decimal; twenty digits are enough for every u64
unfoldable pub decimal : (x : ℕ) → List ℕ
decimal x = digits 20 x

-- a number after its name
unfoldable pub field : (name : List ℕ) (x : ℕ) → List ℕ
field name x = name ++ decimal x

-- the same as a whole line
unfoldable pub line : (name : List ℕ) (x : ℕ) → List ℕ
line name x = field name x ++ word "\n"

-- a refusal by its number
unfoldable pub refused_line : (number : ℕ) → List ℕ
refused_line number = line (word "refused ") number
