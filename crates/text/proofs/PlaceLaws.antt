-- A copy to the end of a text whose length is given by any place a, one behind the end of the buffer too.
--     appended_copy    the bytes w, copied to the end m of the text, k of them
use Rattle.std.proofs.Common.{ℕ, ◌+◌, ◌-◌, min, ◌≡◌, refl, sym, ◌∙◌, arith}
use Rattle.std.proofs.Common.{List, ◌++◌, length, take, length-take, length-take-le, take_all}
use Rattle.std.proofs.Math.Seq.{paste, length-paste, take-paste}
use Rattle.text.specs.Text.{Appended}
use Rattle.text.proofs.Copying.{take_both, take_least}

module _
    (o w : List ℕ) (a m k : ℕ)
    (is-end : m ≡ min a (length o))
    (is-count : k ≡ min (length w) (length o - m))
  where
    copied : take (length o) (take a o ++ w) ≡ take m o ++ take k w
    copied =
        let count : min (length o - m) (length w) ≡ k = omega arith in
        take_both (length o) (take a o) w
        ∙ rw (take_all (length o) (take a o) (omega (arith, length-take a o)), length-take a o, ← is-end)
        (rw (← take_least a o, ← is-end, ← take_least (length o - m) w) (rw count refl))

    kept_length : length (paste o m w k) ≡ length o
    kept_length = length-paste o m w k (omega arith) (omega arith)

    pub appended_copy : Appended o a w (paste o m w k) (m + k)
    appended_copy = record {
      size = kept_length;
      within = omega (arith, kept_length);
      counted = sym (length-take-le (m + k) (paste o m w k) (omega (arith, kept_length)));
      text = take-paste o m w k (omega arith) (omega arith) ∙ sym copied;
    }
