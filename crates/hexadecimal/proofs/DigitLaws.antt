-- Laws of the digits of bytes.
--     printed_low, printed_high    a digit of either kind
--     byte_appended                the two digits of a byte
--     hexed_start, hexed_next, hexed_all       the digits of the first bytes of a list, and of all, appended
use Rattle.std.specs.Prelude.{ℕ, ◌+◌, ◌/◌, ◌%◌, ◌≤◌, ◌<◌, ◌≡◌, List, [], ◌∷◌, length, get_or, take}
use Rattle.std.proofs.Math.Path.{refl}
use Rattle.std.proofs.Common.{sym, subst, lt-ltb, le-ltb, take_all}
use Rattle.text.specs.Text.{Appended}
use Rattle.text.proofs.TextLaws.{appended_none, appended_then}
use Rattle.hexadecimal.specs.Digits.{hex_digit, hex_byte, hexed}
use Rattle.hexadecimal.proofs.PrintingLaws.{hexed_more}

-- ---- a byte
module _ (d : ℕ) where
  pub printed_low : d < 10 → 48 + d ≡ hex_digit d
  unfolding hex_digit
  printed_low h = rw (lt-ltb d 10 h) refl

  pub printed_high : 10 ≤ d → 55 + d ≡ hex_digit d
  unfolding hex_digit
  printed_high h = rw (le-ltb d 10 h) refl

pub byte_appended :
    (x high low : ℕ) {o p : List ℕ} {a b : ℕ}
    → high ≡ hex_digit (x / 16)
    → low ≡ hex_digit (x % 16)
    → Appended o a (high ∷ low ∷ []) p b
    → Appended o a (hex_byte x) p b
unfolding hex_byte
byte_appended x high low e f u = rw (e, f) at u

-- ---- a list of bytes
pub hexed_start : (o : List ℕ) (a : ℕ) → a ≤ length o → Appended o a (hexed []) o a
unfolding hexed
hexed_start o a h = appended_none o a h

pub hexed_next :
    (l : List ℕ) (k : ℕ)
    → k < length l
    → {o p q : List ℕ} {a b c : ℕ}
    → Appended o a (hexed (take k l)) p b
    → Appended p b (hex_byte (get_or l k 0)) q c
    → Appended o a (hexed (take (k + 1) l)) q c
hexed_next l k h {o} {p} {q} {a} {b} {c} u v =
    subst (λ (w : List ℕ). Appended o a w q c) (sym (hexed_more l k h)) (appended_then u v)

-- where nothing was appended before them
pub hexed_all :
    (l : List ℕ) (k : ℕ)
    → length l ≤ k
    → {o p q : List ℕ} {a b c : ℕ}
    → Appended o a [] p b
    → Appended p b (hexed (take k l)) q c
    → Appended o a (hexed l) q c
hexed_all l k h {o} {p} {q} {a} {b} {c} u v =
    subst (λ (m : List ℕ). Appended o a (hexed m) q c) (take_all k l h) (appended_then u v)
