-- Laws of texts and of numbers in decimal.
--     appended_none, appended_then, appended_anew      nothing is appended; one after the other; from the start again
--     appended_field, appended_line        a number after its name
--     field_is, line_is                    a field is a name and a number, a line a field and the end of the line
--     field_after, line_after              a name that is made of two parts
--     appended_all                         what is appended to the empty text is the text, where there is room
--     shorter, digits_one, digits_more     a number without its last digit, one digit, and a digit more
--     decimal_some, decimal_most           a number has one to twenty digits
--     field_most, line_most                so a number after its name is not long
--     decimal_below, field_below, line_below           a number below 10 ^ k has at most k digits, k from 1 on
--     decimal_value                        they say the number
--     decimal_ascii, decimal_lead          each is one of `0` to `9`, and the first is no `0` but in 0 itself
--     refused_is, refusal_line, refused_most           the line of a refusal
-- Cutting off what does not fit may be done after each append or once at the end (take_again): so one append after
-- another is an append. What is said of digits is by induction on how many there may be: a number below 10 is its own
-- digit, and every other is the digits of a tenth of it, and one more.
use Rattle.std.specs.Prelude.{ℕ, zero, suc, ◌+◌, ◌*◌, ◌-◌, ◌/◌, ◌%◌, ◌^◌, ◌≤◌, ◌<◌, ◌≡◌, refl, List, [], ◌∷◌, ◌++◌}
use Rattle.std.specs.Prelude.{length, get_or, take}
use Rattle.std.proofs.Common.{sym, ap, ◌∙◌, append-nil, append_assoc, arith, not-suc-le-zero, div-lt_iff_lt-mul}
use Rattle.std.proofs.Common.{pow-suc, add-one, lt-ltb, le-ltb, length-take, take_all, length-take-le}
use Rattle.std.proofs.Math.Decide.{dec_lt}
use Rattle.std.proofs.Math.ListN.{length-append, get_or-append}
use Rattle.std.proofs.Math.Seq.{get_or-append_seam}
use Rattle.text.specs.Text.{Appended, word, digits, decimal, field, line, refused_line}

-- ---- lists
-- what is cut off at n after an append may be cut off before it too
take_again : (n : ℕ) (l w : List ℕ) → take n (take n l ++ w) ≡ take n (l ++ w)
take_again zero l w = refl
take_again (suc n) [] w = refl
take_again (suc n) (x ∷ l) w = ap (λ (t : List ℕ). x ∷ t) (take_again n l w)

-- ---- appending
pub appended_none : (o : List ℕ) (a : ℕ) → a ≤ length o → Appended o a [] o a
appended_none o a h = record {
  size = refl;
  within = h;
  counted = sym (length-take-le a o h);
  text =
      let fits : length (take a o) ≤ length o = omega (arith, length-take a o) in
      sym (ap (take (length o)) (append-nil (take a o)) ∙ take_all (length o) (take a o) fits);
}

pub appended_then :
    {o v p w q : List ℕ} {a b c : ℕ}
    → Appended o a v p b
    → Appended p b w q c
    → Appended o a (v ++ w) q c
appended_then {o} {v} {p} {w} {q} {a} {b} {c} x y = record {
  size = y.size ∙ x.size;
  within = y.within;
  counted = y.counted;
  text = y.text ∙ rw (x.size, x.text, take_again, append_assoc);
}

-- a number after its name, and the same as a line
pub appended_field :
    (name : List ℕ) (x : ℕ) {o p q : List ℕ} {a b c : ℕ}
    → Appended o a name p b
    → Appended p b (decimal x) q c
    → Appended o a (field name x) q c
unfolding field
appended_field name x u v = appended_then u v

pub appended_line :
    (name : List ℕ) (x : ℕ) {o p q : List ℕ} {a b c : ℕ}
    → Appended o a (field name x) p b
    → Appended p b (word "\n") q c
    → Appended o a (line name x) q c
unfolding line
appended_line name x u v = appended_then u v

-- the first part of a name may stand before the number, and before the line
pub field_after : (v w : List ℕ) (x : ℕ) → field (v ++ w) x ≡ v ++ field w x
unfolding field
field_after v w x = append_assoc v w (decimal x)

pub field_is : (name : List ℕ) (x : ℕ) → field name x ≡ name ++ decimal x
unfolding field
field_is name x = refl

pub line_is : (name : List ℕ) (x : ℕ) → line name x ≡ field name x ++ word "\n"
unfolding line
line_is name x = refl

pub line_after : (v w : List ℕ) (x : ℕ) → line (v ++ w) x ≡ v ++ line w x
unfolding line field
line_after v w x = simp append_assoc

-- a buffer of the same length has the same room for a text that starts anew
pub appended_anew :
    {o p w q : List ℕ} {r : ℕ}
    → length p ≡ length o
    → Appended p 0 w q r
    → Appended o 0 w q r
appended_anew {o} {p} {w} e x = record {
  size = x.size ∙ e;
  within = x.within;
  counted = x.counted;
  text = x.text ∙ rw e refl;
}

pub appended_all : {o w p : List ℕ} {r : ℕ} → Appended o 0 w p r → length w ≤ length o → take r p ≡ w
appended_all {o} {w} x h = x.text ∙ take_all (length o) w h

-- ---- digits
-- a number without its last digit has one digit less
pub shorter : (k x : ℕ) → x < 10 ^ suc k → x / 10 < 10 ^ k
shorter k x h = (div-lt_iff_lt-mul {k = 10} {x = x} {y = 10 ^ k} (omega arith)).1 (rw pow-suc at h)

pub digits_one : (k x : ℕ) → x < 10 → digits (k + 1) x ≡ (48 + x) ∷ []
unfolding digits
digits_one k x h = rw (add-one, lt-ltb x 10 h) refl

pub digits_more : (k x : ℕ) → 10 ≤ x → digits (k + 1) x ≡ digits k (x / 10) ++ ((48 + x % 10) ∷ [])
unfolding digits
digits_more k x h = rw (add-one, le-ltb x 10 h) refl

digits_some : (k x : ℕ) → 1 ≤ length (digits (suc k) x)
unfolding digits
digits_some k x = elim (dec_lt x 10) [
  | yes h ↦ rw (lt-ltb x 10 h) (omega arith)
  | no f ↦ rw (le-ltb x 10 (omega arith), length-append) (omega arith)
]

digits_most : (k x : ℕ) → length (digits k x) ≤ k
unfolding digits
digits_most zero x = omega arith
digits_most (suc k) x = elim (dec_lt x 10) [
  | yes h ↦ rw (lt-ltb x 10 h) (omega arith)
  | no f ↦ rw (le-ltb x 10 (omega arith), length-append) (omega (arith, digits_most k (x / 10)))
]

-- a small number has few digits, however many there may be
digits_below : (j k x : ℕ) → 1 ≤ k → x < 10 ^ k → length (digits j x) ≤ k
unfolding digits
digits_below zero k x s h = omega arith
digits_below (suc j) zero x s h = absurd (not-suc-le-zero s)
digits_below (suc j) (suc zero) x s h = rw (lt-ltb x 10 (omega arith)) (omega arith)
digits_below (suc j) (suc (suc k)) x s h = elim (dec_lt x 10) [
  | yes l ↦ rw (lt-ltb x 10 l) (omega arith)
  | no f ↦
      let rest = digits_below j (suc k) (x / 10) (omega arith) (shorter (suc k) x h) in
      rw (le-ltb x 10 (omega arith), length-append) (omega (arith, rest))
]

-- the number that a list of digits is, where v is what the digits before it are
unfoldable pub value_after : (v : ℕ) (l : List ℕ) → ℕ
value_after v [] = v
value_after v (d ∷ l) = value_after (10 * v + (d - 48)) l

-- the number that a list of digits is
unfoldable pub value : (l : List ℕ) → ℕ
value l = value_after 0 l

-- the number that digits are, with one digit more at their end
value_more : (v d : ℕ) (l : List ℕ) → value_after v (l ++ (d ∷ [])) ≡ 10 * value_after v l + (d - 48)
unfolding value_after
value_more v d [] = refl
value_more v d (e ∷ l) = value_more (10 * v + (e - 48)) d l

digits_value : (k x : ℕ) → x < 10 ^ k → value_after 0 (digits k x) ≡ x
unfolding digits value_after
digits_value zero x h = omega arith
digits_value (suc k) x h = elim (dec_lt x 10) [
  | yes l ↦ rw (lt-ltb x 10 l) (omega arith)
  | no f ↦
      let last = value_more 0 (48 + x % 10) (digits k (x / 10)) in
      let rest = digits_value k (x / 10) (shorter k x h) in
      rw (le-ltb x 10 (omega arith), last, rest) (omega arith)
]

-- each digit is one of `0` to `9`
abbrev Ascii : (d : ℕ) → Type 0
Ascii d = (48 ≤ d) × (d ≤ 57)

all_more :
    (l : List ℕ) (d i : ℕ)
    → ((j : ℕ) → j < length l → Ascii (get_or l j 0))
    → Ascii d
    → i < length l + 1
    → Ascii (get_or (l ++ (d ∷ [])) i 0)
all_more l d i all a h = elim (dec_lt i (length l)) [
  | yes s ↦ rw (get_or-append l (d ∷ []) 0 i s) (all i s)
  | no f ↦ let e : i ≡ length l = omega arith in rw (e, get_or-append_seam l d [] 0) a
]

digits_ascii : (k x i : ℕ) → i < length (digits k x) → Ascii (get_or (digits k x) i 0)
unfolding digits
digits_ascii zero x i h = absurd (not-suc-le-zero h)
digits_ascii (suc k) x i h = elim (dec_lt x 10) [
  | yes s ↦
      let one : digits (suc k) x ≡ (48 + x) ∷ [] = rw (lt-ltb x 10 s) refl in
      let e : i ≡ 0 = omega (arith, ap length one) in
      rw (lt-ltb x 10 s, e) (omega arith, omega arith)
  | no f ↦
      let more : digits (suc k) x ≡ digits k (x / 10) ++ ((48 + x % 10) ∷ []) =
      rw (le-ltb x 10 (omega arith)) refl in
      let size = length-append (digits k (x / 10)) ((48 + x % 10) ∷ []) in
      rw (le-ltb x 10 (omega arith))
      (all_more (digits k (x / 10)) (48 + x % 10) i (λ j l. digits_ascii k (x / 10) j l) (omega arith, omega arith)
      (omega (arith, ap length more, size)))
]

-- the first digit is no `0`
lead : (l w : List ℕ) → 49 ≤ get_or l 0 0 → 49 ≤ get_or (l ++ w) 0 0
lead [] w h = absurd (let x : ⊥ = omega arith in x)
lead (d ∷ l) w h = h

digits_lead : (k x : ℕ) → 1 ≤ x → x < 10 ^ k → 49 ≤ get_or (digits k x) 0 0
unfolding digits
digits_lead zero x l h = absurd (let x : ⊥ = omega arith in x)
digits_lead (suc k) x l h = elim (dec_lt x 10) [
  | yes s ↦ rw (lt-ltb x 10 s) (omega arith)
  | no f ↦
      let first = digits_lead k (x / 10) (omega arith) (shorter k x h) in
      rw (le-ltb x 10 (omega arith)) (lead (digits k (x / 10)) ((48 + x % 10) ∷ []) first)
]

-- ---- numbers in decimal
pub decimal_some : (x : ℕ) → 1 ≤ length (decimal x)
unfolding decimal
decimal_some x = digits_some 19 x

pub decimal_most : (x : ℕ) → length (decimal x) ≤ 20
unfolding decimal
decimal_most x = digits_most 20 x

-- so a number after its name is not long, and neither is its line
pub field_most : (name : List ℕ) (x : ℕ) → length (field name x) ≤ length name + 20
unfolding field
field_most name x = simp length-append (omega (arith, decimal_most x))

pub line_most : (name : List ℕ) (x : ℕ) → length (line name x) ≤ length name + 21
unfolding line
line_most name x = simp length-append (omega (arith, field_most name x))

-- and shorter where the number is known to be small
module _ (k x : ℕ) (some : 1 ≤ k) (h : x < 10 ^ k) where
  pub decimal_below : length (decimal x) ≤ k
  unfolding decimal
  decimal_below = digits_below 20 k x some h

  pub field_below : (name : List ℕ) → length (field name x) ≤ length name + k
  unfolding field
  field_below name = simp length-append (omega (arith, decimal_below))

  pub line_below : (name : List ℕ) → length (line name x) ≤ length name + k + 1
  unfolding line
  line_below name = simp length-append (omega (arith, field_below name))

pub decimal_value : (x : ℕ) → x < 10 ^ 20 → value (decimal x) ≡ x
unfolding decimal value
decimal_value x h = digits_value 20 x h

pub decimal_ascii :
    (x i : ℕ)
    → i < length (decimal x)
    → (48 ≤ get_or (decimal x) i 0) × (get_or (decimal x) i 0 ≤ 57)
unfolding decimal
decimal_ascii x i h = digits_ascii 20 x i h

pub decimal_lead : (x : ℕ) → 1 ≤ x → x < 10 ^ 20 → 49 ≤ get_or (decimal x) 0 0
unfolding decimal
decimal_lead x l h = digits_lead 20 x l h

-- the smallest number, two with a zero in them, and the largest u64
decimal_0 : decimal 0 ≡ 48 ∷ []
unfolding decimal digits
decimal_0 = refl

decimal_10 : decimal 10 ≡ 49 ∷ 48 ∷ []
unfolding decimal digits
decimal_10 = refl

decimal_905 : decimal 905 ≡ 57 ∷ 48 ∷ 53 ∷ []
unfolding decimal digits
decimal_905 = refl

decimal_largest : decimal 18446744073709551615 ≡ word "18446744073709551615"
unfolding decimal digits
decimal_largest = refl

-- ---- the line of a refusal
pub refused_is : (k : ℕ) → refused_line k ≡ line (word "refused ") k
unfolding refused_line
refused_is k = refl

pub refusal_line :
    (k : ℕ) {o p : List ℕ} {a b : ℕ}
    → Appended o a (line (word "refused ") k) p b
    → Appended o a (refused_line k) p b
refusal_line k u = rw (refused_is k) u

pub refused_most : (k : ℕ) → length (refused_line k) ≤ 29
unfolding refused_line
refused_most k = line_most (word "refused ") k
