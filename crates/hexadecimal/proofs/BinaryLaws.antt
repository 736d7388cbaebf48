-- Laws of texts and binary files.
--     text_none                        a text is a list without control bytes
--     hexed_text                       the text of a list of bytes is one
--     text_control                     with a control byte anywhere it is none
--     accepted_binary                  no bench file of either format that is accepted is taken for a text
-- Why: the high byte of its link count is below 16. Where that is no control byte, it is 9 or more, and there are 2,304
-- links or more. The routers whose numbers are no control bytes are 37, from 9 to 13 and from 32 on; these have 1,369
-- pairs, and no pair is listed twice. So some link has an end that is a control byte.
use Rattle.std.specs.Prelude.{ℕ, zero, suc, ◌+◌, ◌-◌, ◌/◌, ◌%◌, ◌≤◌, ◌<◌, min, ◌≡◌, Bool, true, not, ◌&&◌, ◌||◌, ◌⊎◌}
use Rattle.std.specs.Prelude.{List, [], ◌∷◌}
use Rattle.std.specs.Prelude.{length, get_or}
use Rattle.std.proofs.Math.Path.{refl}
use Rattle.std.proofs.Common.{sym, ◌∙◌, inl, inr, ⊎_elim, not-suc-le-zero, le_of_suc-le-suc, arith, lt-ltb}
use Rattle.std.proofs.Common.{le-ltb}
use Rattle.std.proofs.Math.Bool.{false}
use Rattle.std.proofs.lemmas.Bool.{false≢true}
use Rattle.std.proofs.Math.Decide.{dec_lt}
use Rattle.std.specs.List.{list_any}
use Rattle.area.specs.Limits.{width}
use Rattle.area.proofs.TestLaws.{look, and_false}
use Rattle.bench_file.specs.declared.Format.{Format}
use Rattle.bench_file.specs.Faults.{file_refusal}
use Rattle.bench_file.proofs.FaultLaws.{Accepted, accepted_of}
use Rattle.bench_file.proofs.FileLaws.{second_byte, links_among}
use Rattle.hexadecimal.specs.Hex.{is_control, is_text}
use Rattle.hexadecimal.specs.Digits.{hex_digit, hex_byte, hexed}
use Rattle.hexadecimal.proofs.ReadingLaws.{space_low, space_other}

-- ---- control bytes
-- the bytes below white space are control bytes, and so are those between it and the space; from there on none is
control_low : (b : ℕ) → b < 9 → is_control b ≡ true
unfolding is_control
control_low b h = rw (lt-ltb b 32 (omega arith), ← space_low b h) refl

control_middle : (b : ℕ) → 14 ≤ b → b < 32 → is_control b ≡ true
unfolding is_control
control_middle b h k = rw (lt-ltb b 32 k, ← space_other b h (λ e. omega arith)) refl

control_high : (b : ℕ) → 32 ≤ b → is_control b ≡ false
unfolding is_control
control_high b h = rw (le-ltb b 32 h) refl

-- a text is a list without one
pub text_none : (l : List ℕ) → not (list_any is_control l) ≡ is_text l
unfolding is_text
text_none [] = refl
text_none (b ∷ l) = by_test (is_control b) (text_none l)
  where
    by_test :
        (t : Bool)
        → not (list_any is_control l) ≡ is_text l
        → not (t || list_any is_control l) ≡ (not t && is_text l)
    by_test true e = refl
    by_test false e = e

-- the text of a list of bytes has digits only
control_digit : (d : ℕ) → is_control (hex_digit d) ≡ false
unfolding hex_digit
control_digit d = elim (dec_lt d 10) [
  | yes h ↦ rw (lt-ltb d 10 h) (control_high (48 + d) (omega arith))
  | no f ↦ rw (le-ltb d 10 (omega arith)) (control_high (55 + d) (omega arith))
]

pub hexed_text : (l : List ℕ) → is_text (hexed l) ≡ true
unfolding is_text hexed hex_byte
hexed_text [] = refl
hexed_text (x ∷ l) = rw (control_digit (x / 16), control_digit (x % 16)) (hexed_text l)

-- ---- a binary file
pub text_control : (l : List ℕ) (k : ℕ) → k < length l → is_control (get_or l k 0) ≡ true → is_text l ≡ false
unfolding is_text
text_control [] k h e = absurd (not-suc-le-zero h)
text_control (b ∷ l) zero h e = rw e refl
text_control (b ∷ l) (suc k) h e =
    and_false (not (is_control b)) (is_text l) (text_control l k (le_of_suc-le-suc h) e)

-- the numbers of routers that are no control bytes, each with its place among them
abbrev Plain : (r : ℕ) → Type 0
Plain r = ((9 ≤ r) × (r ≤ 13)) ⊎ ((32 ≤ r) × (r < width))

abbrev place : (r : ℕ) → ℕ
place r = min (r - 9) 5 + (r - 32)

-- so many they are
abbrev plain_count : ℕ
plain_count = 5 + (width - 32)

place_below : (r : ℕ) → Plain r → place r < plain_count
place_below r (inl a) = omega arith
place_below r (inr a) = omega arith

place_apart : (r s : ℕ) → Plain r → Plain s → place r ≡ place s → r ≡ s
place_apart r s (inl a) (inl b) q = omega arith
place_apart r s (inl a) (inr b) q = omega arith
place_apart r s (inr a) (inl b) q = omega arith
place_apart r s (inr a) (inr b) q = omega arith

plain_of : (r : ℕ) → r < width → is_control r ≡ false → Plain r
plain_of r h c = by_size (dec_lt r 9) (dec_lt r 14) (dec_lt r 32)
  where
    never : is_control r ≡ true → Plain r
    never t = absurd (false≢true (sym c ∙ t))

    by_size : Dec (r < 9) → Dec (r < 14) → Dec (r < 32) → Plain r
    by_size (yes a) b d = never (control_low r a)
    by_size (no a) (yes b) d = inl (omega arith, omega arith)
    by_size (no a) (no b) (yes d) = never (control_middle r (omega arith) d)
    by_size (no a) (no b) (no d) = inr (omega arith, h)

pub accepted_binary : (format : Format) (f : List ℕ) → file_refusal format f ≡ 0 → is_text f ≡ false
accepted_binary format f z = ⊎_elim (λ t. absurd (never t)) (λ n. n) (look (is_text f))
  where
    good : Accepted format f
    good = accepted_of format f z

    plain : is_text f ≡ true → (p : ℕ) → p < length f → get_or f p 0 < width → Plain (get_or f p 0)
    plain t p h r =
        ⊎_elim
        (λ c. absurd (false≢true (sym (text_control f p h c) ∙ t)))
        (plain_of (get_or f p 0) r)
        (look (is_control (get_or f p 0)))

    never : is_text f ≡ true → ⊥
    never t =
        let low = second_byte format f good in
        let few = links_among format f good Plain (plain t) plain_count place place_below place_apart in
        ⊎_elim
        (λ a. omega (arith, few, a.0))
        (λ a. omega (arith, low, a.0))
        (plain t 1 (omega (arith, good.size)) (omega (arith, low)))
