-- Laws of texts in hexadecimal.
--     unhexed_long, unhexed_decoded    what is written for a text that is too long, and for every other
--     unhexed_fits     half as many bytes as the longest text has, `room`, have room for whatever is written: each byte
--                      of the text is one digit at most, two digits are a byte, and the line of a fault is short
--     digit_of, first_of, second_of    the digit of a number reads as this number
--     unhexed_hexed    every list of so many bytes at most is written for the text of its digits: the two digits of a
--                      byte read as that byte, and after it a pair may start again
use Rattle.std.specs.Prelude.{ℕ, suc, ◌+◌, ◌*◌, ◌-◌, ◌/◌, ◌%◌, ◌≤◌, ◌<◌, ◌≡◌, Bool, cond, ◌||◌, ltb, length, get_or}
use Rattle.std.proofs.Math.Path.{refl}
use Rattle.std.proofs.Common.{sym, ◌∙◌, lt-ltb, le-ltb}
use Rattle.std.proofs.Math.Bool.{true, false}
use mathlib.Core.List.{List, [], ◌∷◌, ◌++◌, append-nil}
use Rattle.std.proofs.Math.Decide.{dec_lt}
use native.Mathlib.Omega.{arith}
use Rattle.std.proofs.Math.Dec.{eqb}
use Rattle.std.proofs.Math.ListN.{length-append}
use Rattle.std.proofs.Math.Seq.{append_snoc}
use Rattle.text.specs.Text.{line}
use Rattle.text.proofs.TextLaws.{line_most}
use Rattle.hexadecimal.specs.declared.Reading.{Reading}
use Rattle.hexadecimal.specs.declared.Reading.TheVariants.{Between, Comment, High, Byte, Bad, Odd}
use Rattle.hexadecimal.specs.Hex.{digit, is_space, first, second, next, byte_of, bad_digit, odd_digit, too_long}
use Rattle.hexadecimal.specs.Hex.{unless_fault, decode, decoded, unhexed, most}
use Rattle.hexadecimal.specs.Digits.{hex_digit, hex_byte, hexed}
use Rattle.hexadecimal.proofs.ReadingLaws.{digit_decimal, digit_upper, first_digit, second_digit}

-- ---- a text that is decoded, and one that is too long for it
module _ (t : List ℕ) where
  pub unhexed_long : most < length t → unhexed t ≡ too_long
  unfolding unhexed
  unhexed_long h = rw (lt-ltb most (length t) h) refl

  pub unhexed_decoded : length t ≤ most → unhexed t ≡ decoded t
  unfolding unhexed
  unhexed_decoded h = rw (le-ltb most (length t) h) refl

-- ---- what is written has at most half as many bytes as the longest text
abbrev pub room : ℕ
room = most / 2

-- the digits that wait for another one
waits : Reading → ℕ
waits Between = 0
waits Comment = 0
waits (High h) = 1
waits (Byte x) = 0
waits Bad = 0
waits Odd = 0

-- the digits of a reading, two for a byte
taken : Reading → ℕ
unfolding byte_of waits
taken r = 2 * length (byte_of r) + waits r

-- a byte of the text is one digit at most
module _ (b : ℕ) where
  first_taken : taken (first b) ≤ 1
  unfolding first taken byte_of waits
  first_taken = by_tests (ltb (digit b) 16) (is_space b) (eqb b 35)
    where
      by_tests : (t u v : Bool) → taken (cond t (High (digit b)) (cond u Between (cond v Comment Bad))) ≤ 1
      by_tests true u v = omega arith
      by_tests false true v = omega arith
      by_tests false false true = omega arith
      by_tests false false false = omega arith

  second_taken : (h : ℕ) → taken (second h b) ≤ 2
  unfolding second taken byte_of waits
  second_taken h = by_tests (ltb (digit b) 16) (is_space b || eqb b 35)
    where
      by_tests : (t u : Bool) → taken (cond t (Byte (16 * h + digit b)) (cond u Odd Bad)) ≤ 2
      by_tests true u = omega arith
      by_tests false true = omega arith
      by_tests false false = omega arith

  comment_taken : taken (cond (eqb b 10) Between Comment) ≤ 1
  unfolding taken byte_of waits
  comment_taken = by_test (eqb b 10)
    where
      by_test : (t : Bool) → taken (cond t Between Comment) ≤ 1
      by_test true = omega arith
      by_test false = omega arith

  next_taken : (s : Reading) → taken (next s b) ≤ waits s + 1
  unfolding next taken byte_of waits
  next_taken Between = first_taken
  next_taken Comment = comment_taken
  next_taken (High h) = second_taken h
  next_taken (Byte x) = first_taken
  next_taken Bad = omega arith
  next_taken Odd = omega arith

-- the line of a fault is short
line_fits : (name : List ℕ) (at : ℕ) → length name ≡ 13 → length (line name at) ≤ 34
line_fits name at e = omega (arith, line_most name at)

module _ (n : ℕ) (least : 34 ≤ n) where
  unless_fits :
      (at : ℕ) (r : Reading) (rest : List ℕ)
      → length rest ≤ n
      → length (unless_fault at r rest) ≤ n
  unfolding unless_fault
  unless_fits at Between rest h = h
  unless_fits at Comment rest h = h
  unless_fits at (High x) rest h = h
  unless_fits at (Byte x) rest h = h
  unless_fits at Bad rest h = omega (arith, line_fits bad_digit at refl)
  unless_fits at Odd rest h = omega (arith, line_fits odd_digit (at - 1) refl)

  decode_fits :
      (done : List ℕ) (at : ℕ) (s : Reading) (l : List ℕ)
      → 2 * length done + waits s + length l ≤ 2 * n
      → length (decode done at s l) ≤ n
  unfolding decode taken
  decode_fits done at s [] h = unless_fits at (next s 10) done (omega arith)
  decode_fits done at s (b ∷ l) h =
      let r = next s b in
      let size = length-append done (byte_of r) in
      unless_fits at r (decode (done ++ byte_of r) (at + 1) r l)
      (decode_fits (done ++ byte_of r) (at + 1) r l (omega (arith, size, next_taken b s)))

pub unhexed_fits : (t : List ℕ) → length (unhexed t) ≤ room
unfolding decoded waits
unhexed_fits t = elim (dec_lt most (length t)) [
  | yes h ↦ rw (unhexed_long t h) (omega arith)
  | no f ↦ rw (unhexed_decoded t (omega arith)) (decode_fits room (omega arith) [] 0 Between t (omega arith))
]

-- ---- the text of a list of bytes
pub digit_of : (d : ℕ) → d < 16 → digit (hex_digit d) ≡ d
unfolding hex_digit
digit_of d h = elim (dec_lt d 10) [
  | yes l ↦ rw (lt-ltb d 10 l) (sym (digit_decimal (48 + d) (omega arith) (omega arith)) ∙ omega arith)
  | no f ↦ rw (le-ltb d 10 (omega arith)) (sym (digit_upper (55 + d) (omega arith) (omega arith)) ∙ omega arith)
]

pub length_hexed : (l : List ℕ) → length (hexed l) ≡ 2 * length l
unfolding hexed hex_byte
length_hexed [] = refl
length_hexed (x ∷ l) = omega (arith, length_hexed l)

pub first_of : (d : ℕ) → d < 16 → first (hex_digit d) ≡ High d
first_of d h = sym (first_digit (hex_digit d) d (sym (digit_of d h)) h)

pub second_of : (h d : ℕ) → d < 16 → second h (hex_digit d) ≡ Byte (16 * h + d)
second_of h d l = sym (second_digit h (hex_digit d) d (sym (digit_of d l)) l)

pub first_newline : first 10 ≡ Between
unfolding first digit is_space
first_newline = refl

-- from a reading on after which a pair may start
decode_hexed :
    (l : List ℕ)
    → ((k : ℕ) → get_or l k 0 < 256)
    → (done : List ℕ) (at : ℕ) (s : Reading)
    → ((b : ℕ) → next s b ≡ first b)
    → decode done at s (hexed l) ≡ done ++ l
unfolding hexed hex_byte decode unless_fault byte_of next
decode_hexed [] small done at s f = rw (f 10, first_newline, append-nil done) refl
decode_hexed (x ∷ l) small done at s f =
    let low : x < 256 = small 0 in
    let whole : 16 * (x / 16) + x % 16 ≡ x = omega arith in
    let high = first_of (x / 16) (omega arith) in
    let byte = second_of (x / 16) (x % 16) (omega arith) in
    rw (f (hex_digit (x / 16)), high, byte, whole, append-nil done)
    (decode_hexed l (λ k. small (suc k)) (done ++ (x ∷ [])) (at + 1 + 1) (Byte x) (λ b. refl)
    ∙ append_snoc done x l)

pub unhexed_hexed :
    (l : List ℕ)
    → length l ≤ room
    → ((k : ℕ) → get_or l k 0 < 256)
    → unhexed (hexed l) ≡ l
unfolding decoded next
unhexed_hexed l h small =
    unhexed_decoded (hexed l) (omega (arith, length_hexed l))
    ∙ decode_hexed l small [] 0 Between (λ b. refl)

-- ---- texts
-- `0a fF#g` and a newline, `20`
two_lines :
    unhexed (48 ∷ 97 ∷ 32 ∷ 102 ∷ 70 ∷ 35 ∷ 103 ∷ 10 ∷ 50 ∷ 48 ∷ [])
    ≡ 10 ∷ 255 ∷ 32 ∷ []
unfolding unhexed decoded decode unless_fault next first second digit is_space byte_of
two_lines = refl

-- `00 4#`: the digit at place 3 is lone
lone_digit : unhexed (48 ∷ 48 ∷ 32 ∷ 52 ∷ 35 ∷ []) ≡ line odd_digit 3
unfolding unhexed decoded decode unless_fault next first second digit is_space byte_of
lone_digit = refl

-- `4`: so is a digit at the end
last_digit : unhexed (52 ∷ []) ≡ line odd_digit 0
unfolding unhexed decoded decode unless_fault next first second digit is_space byte_of
last_digit = refl

-- `4g 4`: the first fault decides
first_fault : unhexed (52 ∷ 103 ∷ 32 ∷ 52 ∷ []) ≡ line bad_digit 1
unfolding unhexed decoded decode unless_fault next first second digit is_space byte_of
first_fault = refl
