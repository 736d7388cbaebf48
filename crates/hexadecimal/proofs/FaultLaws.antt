-- Laws of texts with a fault.
--     faulty_long, faulty_decoded          a text that is too long is faulty, and every other where a byte is a fault
--     fault_now, fault_later, fault_end    the next byte is a fault, or not; so for the end of the text
--     unhexed_sound        for a text that is not faulty, what is written are the bytes that its pairs stand for
--     unhexed_faulty       for a faulty one it is one of three lines
--     hexed_sound          the text of so many bytes at most is not faulty
--     unhexed_first, faulty_first          the first bytes of a long text tell that it is too long
use Rattle.std.specs.Prelude.{ℕ, suc, ◌+◌, ◌*◌, ◌-◌, ◌/◌, ◌%◌, ◌≤◌, ◌<◌, ◌≡◌, true, false, ◌⊎◌, List, [], ◌∷◌, ◌++◌}
use Rattle.std.specs.Prelude.{ltb, length, get_or, take}
use Rattle.std.proofs.Math.Path.{refl}
use Rattle.std.proofs.Common.{sym, ap, ◌∙◌, inl, inr, ⊎_elim, append-nil, append_assoc, arith, lt-ltb, le-ltb}
use Rattle.std.proofs.Common.{ltb-false, take_all, length-take-le}
use Rattle.std.proofs.lemmas.Bool.{false≢true}
use Rattle.std.proofs.Math.Decide.{dec_lt}
use Rattle.area.proofs.TestLaws.{or_cases, or_false}
use Rattle.text.specs.Text.{line}
use Rattle.hexadecimal.specs.declared.Reading.{Reading}
use Rattle.hexadecimal.specs.declared.Reading.TheVariants.{Between, Comment, High, Byte, Bad, Odd}
use Rattle.hexadecimal.specs.Hex.{most, first, next, byte_of, bytes_of, bad_digit, odd_digit, too_long}
use Rattle.hexadecimal.specs.Hex.{unless_fault, decode, decoded, unhexed, is_fault, has_fault, is_faulty}
use Rattle.hexadecimal.proofs.HexLaws.{room, unhexed_long, unhexed_decoded}
use Rattle.hexadecimal.specs.Digits.{hex_digit, hex_byte, hexed}
use Rattle.hexadecimal.proofs.HexLaws.{length_hexed, first_of, second_of, first_newline}

-- ---- a text that is decoded, and one that is too long for it
module _ (t : List ℕ) where
  pub faulty_long : most < length t → is_faulty t ≡ true
  unfolding is_faulty
  faulty_long h = rw (lt-ltb most (length t) h) refl

  pub faulty_decoded : length t ≤ most → is_faulty t ≡ has_fault Between t
  unfolding is_faulty
  faulty_decoded h = rw (le-ltb most (length t) h) refl

-- ---- a byte after one that was read as s, and the end of the text
module _ (s : Reading) where
  pub fault_now : (b : ℕ) (l : List ℕ) → is_fault (next s b) ≡ true → has_fault s (b ∷ l) ≡ true
  unfolding has_fault
  fault_now b l e = rw e refl

  pub fault_later :
      (b : ℕ) (l : List ℕ)
      → is_fault (next s b) ≡ false
      → has_fault s (b ∷ l) ≡ has_fault (next s b) l
  unfolding has_fault
  fault_later b l e = rw e refl

  pub fault_end : has_fault s [] ≡ is_fault (next s 10)
  unfolding has_fault
  fault_end = refl

-- ---- what is written for a text without a fault
pub unless_sound : (at : ℕ) (r : Reading) (l : List ℕ) → is_fault r ≡ false → unless_fault at r l ≡ l
unfolding is_fault unless_fault
unless_sound at Between l e = refl
unless_sound at Comment l e = refl
unless_sound at (High h) l e = refl
unless_sound at (Byte x) l e = refl
unless_sound at Bad l e = absurd (false≢true (sym e))
unless_sound at Odd l e = absurd (false≢true (sym e))

decode_sound :
    (done : List ℕ) (at : ℕ) (s : Reading) (l : List ℕ)
    → has_fault s l ≡ false
    → decode done at s l ≡ done ++ bytes_of s l
unfolding has_fault decode bytes_of
decode_sound done at s [] e = unless_sound at (next s 10) done e ∙ sym (append-nil done)
decode_sound done at s (b ∷ l) e =
    let r = next s b in
    let none = or_false (is_fault r) (has_fault r l) e in
    unless_sound at r (decode (done ++ byte_of r) (at + 1) r l) none.0
    ∙ decode_sound (done ++ byte_of r) (at + 1) r l none.1
    ∙ append_assoc done (byte_of r) (bytes_of r l)

pub unhexed_sound : (t : List ℕ) → is_faulty t ≡ false → unhexed t ≡ bytes_of Between t
unfolding is_faulty decoded
unhexed_sound t e =
    let none = or_false (ltb most (length t)) (has_fault Between t) e in
    unhexed_decoded t (ltb-false most (length t) none.0) ∙ decode_sound [] 0 Between t none.1

-- ---- and for one with a fault
-- the line of a fault at some place
abbrev pub FaultLine : (written : List ℕ) → Type 0
FaultLine written = (at : ℕ) × ((written ≡ line bad_digit at) ⊎ (written ≡ line odd_digit at))

unless_faulty : (at : ℕ) (r : Reading) (l : List ℕ) → is_fault r ≡ true → FaultLine (unless_fault at r l)
unfolding is_fault unless_fault
unless_faulty at Between l e = absurd (false≢true e)
unless_faulty at Comment l e = absurd (false≢true e)
unless_faulty at (High h) l e = absurd (false≢true e)
unless_faulty at (Byte x) l e = absurd (false≢true e)
unless_faulty at Bad l e = (at, inl refl)
unless_faulty at Odd l e = (at - 1, inr refl)

unless_line : (at : ℕ) (r : Reading) (l : List ℕ) → FaultLine l → FaultLine (unless_fault at r l)
unfolding unless_fault
unless_line at Between l x = x
unless_line at Comment l x = x
unless_line at (High h) l x = x
unless_line at (Byte b) l x = x
unless_line at Bad l x = (at, inl refl)
unless_line at Odd l x = (at - 1, inr refl)

decode_faulty :
    (done : List ℕ) (at : ℕ) (s : Reading) (l : List ℕ)
    → has_fault s l ≡ true
    → FaultLine (decode done at s l)
unfolding has_fault decode
decode_faulty done at s [] e = unless_faulty at (next s 10) done e
decode_faulty done at s (b ∷ l) e =
    let r = next s b in
    let rest = decode (done ++ byte_of r) (at + 1) r l in
    ⊎_elim
    (unless_faulty at r rest)
    (λ later. unless_line at r rest (decode_faulty (done ++ byte_of r) (at + 1) r l later))
    (or_cases (is_fault r) (has_fault r l) e)

pub unhexed_faulty : (t : List ℕ) → is_faulty t ≡ true → (unhexed t ≡ too_long) ⊎ FaultLine (unhexed t)
unfolding decoded
unhexed_faulty t e = elim (dec_lt most (length t)) [
  | yes h ↦ inl (unhexed_long t h)
  | no f ↦
      let fits : length t ≤ most = omega arith in
      inr (rw (unhexed_decoded t fits) (decode_faulty [] 0 Between t (sym (faulty_decoded t fits) ∙ e)))
]

-- ---- the text of a list of bytes; from a reading on after which a pair may start
hexed_fault :
    (l : List ℕ)
    → ((k : ℕ) → get_or l k 0 < 256)
    → (s : Reading)
    → ((b : ℕ) → next s b ≡ first b)
    → has_fault s (hexed l) ≡ false
unfolding hexed hex_byte has_fault is_fault next
hexed_fault [] small s f = rw (f 10, first_newline) refl
hexed_fault (x ∷ l) small s f =
    let low : x < 256 = small 0 in
    let high = first_of (x / 16) (omega arith) in
    let byte = second_of (x / 16) (x % 16) (omega arith) in
    rw (f (hex_digit (x / 16)), high, byte)
    (hexed_fault l (λ k. small (suc k)) (Byte (16 * (x / 16) + x % 16)) (λ b. refl))

pub hexed_sound :
    (l : List ℕ)
    → length l ≤ room
    → ((k : ℕ) → get_or l k 0 < 256)
    → is_faulty (hexed l) ≡ false
unfolding next
hexed_sound l h small =
    faulty_decoded (hexed l) (omega (arith, length_hexed l)) ∙ hexed_fault l small Between (λ b. refl)

-- ---- the first bytes of a long text
module _ (k : ℕ) (t : List ℕ) (more : most < k) where
  pub unhexed_first : unhexed (take k t) ≡ unhexed t
  unhexed_first = elim (dec_lt k (length t)) [
    | yes h ↦
        let size = length-take-le k t (omega arith) in
        unhexed_long (take k t) (omega arith) ∙ sym (unhexed_long t (omega arith))
    | no f ↦ ap unhexed (take_all k t (omega arith))
  ]

  pub faulty_first : is_faulty (take k t) ≡ is_faulty t
  faulty_first = elim (dec_lt k (length t)) [
    | yes h ↦
        let size = length-take-le k t (omega arith) in
        faulty_long (take k t) (omega arith) ∙ sym (faulty_long t (omega arith))
    | no f ↦ ap is_faulty (take_all k t (omega arith))
  ]
