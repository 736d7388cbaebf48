-- The digits of a number, written from the last one back.
--     Spelled x d from rest        `rest` is what is left of x: its digits go up to place `from` of d, and the digits
--                                  of x after those stand behind it
--     spelled_none, spelled_more, spelled_done     at the start, after a digit more, and with the first digit
--     spelled_some                 a rest of two digits has a place in front
--     appended_rest                the part of d from the first digit on is what is appended
use Prim.Native.Nat.{ℕ, suc, ◌+◌, ◌-◌, ◌/◌, ◌%◌, ◌^◌, ◌≤◌, ◌<◌}
use mathlib.Core.Path.{◌≡◌, refl, sym, ap, ◌∙◌}
use mathlib.Core.List.{List, ◌∷◌, ◌++◌, append-nil, append_assoc}
use native.Mathlib.Decide.{dec_lt}
use native.Mathlib.Omega.{arith}
use native.Mathlib.Numerals.{add-one}
use lib.ListN.{length, take, drop, set, length-set, length-drop, drop_of_length-le}
use lib.Seq.{take_all, drop-cons, drop-set-lt, get_or-set_same}
use Rattle.text.specs.Text.{Appended, digits, decimal}
use Rattle.text.proofs.TextLaws.{digits_one, digits_more, shorter}

pub record Spelled (x : ℕ) (d : List ℕ) (from rest : ℕ) : Type 0 where
  pub size : length d ≡ 20
  pub place : from ≤ 19
  pub fits : rest < 10 ^ (from + 1)
  pub split : decimal x ≡ digits (from + 1) rest ++ drop (from + 1) d

-- what stands from a place on after it was written
written : (d : List ℕ) (i v : ℕ) → i < length d → drop i (set d i v) ≡ v ∷ drop (i + 1) d
written d i v h =
    drop-cons (set d i v) i 0 (omega (arith, length-set d i v))
    ∙ rw (get_or-set_same d i v 0 h, drop-set-lt (suc i) d i v (omega arith), add-one) refl

pub spelled_none : (x : ℕ) (d : List ℕ) → length d ≡ 20 → x < 2 ^ 64 → Spelled x d 19 x
unfolding decimal
spelled_none x d e h = record {
  size = e;
  place = omega arith;
  fits = omega arith;
  split =
      let none = drop_of_length-le d {i = 20} (omega arith) in
      sym (ap (λ (l : List ℕ). digits 20 x ++ l) none ∙ append-nil (digits 20 x));
}

-- a rest of two digits does not stand in one place
pub spelled_some : {x from rest : ℕ} {d : List ℕ} → Spelled x d from rest → 10 ≤ rest → 1 ≤ from
spelled_some {x} {from} {rest} s h = elim (dec_lt 0 from) [
  | yes l ↦ l
  | no f ↦ let e : from ≡ 0 = omega arith in omega (arith, rw e at s.fits)
]

pub spelled_more :
    {x from rest : ℕ} {d : List ℕ}
    → Spelled x d from rest
    → 10 ≤ rest
    → Spelled x (set d from (48 + rest % 10)) (from - 1) (rest / 10)
spelled_more {x} {from} {rest} {d} s h =
    let e : from - 1 + 1 ≡ from = omega (arith, spelled_some s h) in
    let digit = written d from (48 + rest % 10) (omega (arith, s.size, s.place)) in record {
      size = simp length-set s.size;
      place = omega (arith, s.place);
      fits = rw e (shorter from rest (rw add-one at s.fits));
      split = rw (e, digit) (s.split ∙ rw (digits_more from rest h, append_assoc) refl);
    }

pub spelled_done :
    {x from rest : ℕ} {d : List ℕ}
    → Spelled x d from rest
    → rest < 10
    → drop from (set d from (48 + rest)) ≡ decimal x
spelled_done {x} {from} {rest} {d} s h =
    written d from (48 + rest) (omega (arith, s.size, s.place))
    ∙ sym (s.split ∙ rw (digits_one from rest h) refl)

-- the part of d from its first digit on is appended
pub appended_rest :
    {o p w : List ℕ} {a r : ℕ} (d : List ℕ) (from : ℕ)
    → length d ≡ 20
    → drop from d ≡ w
    → Appended o a (take (20 - from) (drop from d)) p r
    → Appended o a w p r
appended_rest {o} {p} {w} {a} {r} d from size e h =
    let all = take_all (20 - from) (drop from d) (omega (arith, length-drop from d)) in
    let whole : take (20 - from) (drop from d) ≡ w = all ∙ e in
    rw whole at h
