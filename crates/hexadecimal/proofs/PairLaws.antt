-- Laws of texts that are made of pairs of digits and white space, part by part. Comments are CommentLaws.antt.
--     Says                     what a part stands for, wherever a pair may start
--     says_none, says_then     no text, and one part after another
--     says_pair                a pair of digits
--     byte_says, bytes_say     the digits of a byte, and of a list of bytes
--     says_blank, says_blanks, says_newline    white space
--     says_whole               such a text is decoded to what it says
use Rattle.std.specs.Prelude.{ℕ, zero, suc, ◌+◌, ◌*◌, ◌/◌, ◌%◌, ◌≤◌, ◌<◌, ◌≡◌, refl, List, [], ◌∷◌, ◌++◌, length}
use Rattle.std.specs.Prelude.{get_or, replicate}
use Rattle.std.proofs.Common.{sym, ap, ap₂, ◌∙◌, subst, append-nil, append_assoc, arith, length-append}
use Rattle.hexadecimal.specs.declared.Reading.{Reading}
use Rattle.hexadecimal.specs.declared.Reading.TheVariants.{Between, Byte}
use Rattle.hexadecimal.specs.Hex.{most, digit, is_space, first, next, byte_of, unless_fault, decode, decoded, unhexed}
use Rattle.hexadecimal.specs.Digits.{hex_digit, hex_byte, hexed}
use Rattle.hexadecimal.proofs.ReadingLaws.{first_digit, second_digit}
use Rattle.hexadecimal.proofs.HexLaws.{unhexed_decoded, digit_of, first_newline}

-- after this reading a pair may start
abbrev pub Ready : (s : Reading) → Type 0
Ready s = (b : ℕ) → next s b ≡ first b

-- Where a pair may start, t is read without a fault and gives these bytes, and a pair may start after it.
pub record Says (t bytes : List ℕ) : Type 0 where
  pub reads :
      (done : List ℕ) (at : ℕ) (s : Reading)
      → Ready s
      → (rest : List ℕ)
      → (u : Reading) × Ready u × (decode done at s (t ++ rest) ≡ decode (done ++ bytes) (at + length t) u rest)

pub says_none : Says [] []
says_none = record {
  reads = λ done at s ready rest.
      (s, ready, ap₂ (λ (d : List ℕ) (k : ℕ). decode d k s rest) (sym (append-nil done)) (omega arith));
}

pub says_then : {t u x y : List ℕ} → Says t x → Says u y → Says (t ++ u) (x ++ y)
says_then {t} {u} {x} {y} p q = record {
  reads = λ done at s ready rest.
      let one = p.reads done at s ready (u ++ rest) in
      let two = q.reads (done ++ x) (at + length t) one.0 one.1 rest in
      let place : at + length t + length u ≡ at + length (t ++ u) = omega (arith, length-append t u) in (
        two.0,
        two.1,
        ap (decode done at s) (append_assoc t u rest)
            ∙ one.2
            ∙ two.2
            ∙ ap₂ (λ (d : List ℕ) (k : ℕ). decode d k two.0 rest) (append_assoc done x y) place,
      );
}

says_space : (b : ℕ) → first b ≡ Between → Says (b ∷ []) []
unfolding decode unless_fault byte_of next
says_space b space = record {
  reads = λ done at s ready rest. (Between, (λ k. refl), rw (ready b, space) refl);
}

pub says_blank : Says (32 ∷ []) []
unfolding first digit is_space
says_blank = says_space 32 refl

pub says_blanks : (k : ℕ) → Says (replicate k 32) []
says_blanks zero = says_none
says_blanks (suc k) = says_then says_blank (says_blanks k)

pub says_newline : Says (10 ∷ []) []
says_newline = says_space 10 first_newline

-- the two digits of a byte
pub says_pair :
    (h l : ℕ)
    → digit h < 16
    → digit l < 16
    → Says (h ∷ l ∷ []) ((16 * digit h + digit l) ∷ [])
unfolding decode unless_fault byte_of next
says_pair h l high low =
    let one = sym (first_digit h (digit h) refl high) in
    let two = sym (second_digit (digit h) l (digit l) refl low) in
    record {
      reads = λ done at s ready rest.
          let place : at + 1 + 1 ≡ at + 2 = omega arith in
          (Byte (16 * digit h + digit l), (λ k. refl), rw (ready h, one, two, append-nil done, place) refl);
    }

pub byte_says : (x : ℕ) → x < 256 → Says (hex_byte x) (x ∷ [])
unfolding hex_byte
byte_says x h =
    let high = digit_of (x / 16) (omega arith) in
    let low = digit_of (x % 16) (omega arith) in
    let whole : 16 * digit (hex_digit (x / 16)) + digit (hex_digit (x % 16)) ≡ x = rw (high, low) (omega arith) in
    subst (λ (b : ℕ). Says (hex_digit (x / 16) ∷ hex_digit (x % 16) ∷ []) (b ∷ [])) whole
    (says_pair (hex_digit (x / 16)) (hex_digit (x % 16)) (omega (arith, high)) (omega (arith, low)))

pub bytes_say : (l : List ℕ) → ((k : ℕ) → get_or l k 0 < 256) → Says (hexed l) l
unfolding hexed
bytes_say [] small = says_none
bytes_say (x ∷ l) small = says_then (byte_says x (small 0)) (bytes_say l (λ k. small (suc k)))

pub says_whole : {t bytes : List ℕ} → Says t bytes → length t ≤ most → unhexed t ≡ bytes
unfolding decoded decode unless_fault next
says_whole {t} {bytes} says h =
    let all = says.reads [] 0 Between (λ b. refl) [] in
    let end = all.1 10 ∙ first_newline in
    unhexed_decoded t h
    ∙ ap (decode [] 0 Between) (sym (append-nil t))
    ∙ all.2
    ∙ rw end refl
