-- A copy to the end of a text, of as many bytes as there is room for, appends them.
--     appended_copy                    k bytes, copied to the end a of the text
--     appended_byte, appended_full     one byte, where there is room for it, and where there is none
-- Cut off at the buffer's length, a text and w after it are the whole text, and of w as much as is left of the length
-- (take_both); that is what the copy wrote, since it stopped at the end of w or of the buffer (take_least).
use Rattle.std.proofs.Common.{ℕ, zero, suc, ◌+◌, ◌-◌, ◌≤◌, ◌<◌, min, ◌≡◌, refl, sym, ap, ◌∙◌, arith, length-take}
use Rattle.std.proofs.Common.{List, [], ◌∷◌, ◌++◌, length, take, length-take-le, take_all, add-one}
use Rattle.std.proofs.Math.Decide.{dec_lt}
use Rattle.std.proofs.Math.ListN.{set, length-set, length-append}
use Rattle.std.proofs.Math.Seq.{paste, length-paste, take-paste, take-append-le, take-suc-set}
use Rattle.text.specs.Text.{Appended}
use native.Mathlib.Nat.{zero-sub, sub-zero, suc-sub-suc}

-- the first n elements of two lists
pub take_both : (n : ℕ) (l w : List ℕ) → take n (l ++ w) ≡ take n l ++ take (n - length l) w
take_both zero l w = rw (zero-sub (length l)) refl
take_both (suc n) [] w = rw (sub-zero (suc n)) refl
take_both (suc n) (x ∷ l) w = ap (λ (t : List ℕ). x ∷ t) (take_both n l w) ∙ rw (suc-sub-suc n (length l)) refl

-- a list has no more than its elements
pub take_least : (n : ℕ) (l : List ℕ) → take (min n (length l)) l ≡ take n l
take_least n l = elim (dec_lt n (length l)) [
  | yes h ↦ ap (λ (k : ℕ). take k l) (let e : min n (length l) ≡ n = omega arith in e)
  | no f ↦ take_all (min n (length l)) l (omega arith) ∙ sym (take_all n l (omega arith))
]

-- k bytes of w, copied to the end a of the text
module _
    (o w : List ℕ) (a k : ℕ)
    (inside : a ≤ length o)
    (is-count : k ≡ min (length w) (length o - a))
  where
    copied : take (length o) (take a o ++ w) ≡ take a o ++ take k w
    copied =
        let count : min (length o - a) (length w) ≡ k = omega arith in
        take_both (length o) (take a o) w
        ∙ rw (take_all (length o) (take a o) (omega (arith, length-take a o)), length-take-le a o inside)
        (rw (← take_least (length o - a) w) (rw count refl))

    pub part_size : length (take k w) ≡ k
    part_size = length-take-le k w (omega arith)

    pub appended_copy : Appended o a w (paste o a (take k w) k) (a + k)
    appended_copy =
        let kept : length (paste o a (take k w) k) ≡ length o =
        length-paste o a (take k w) k (omega arith) (omega (arith, part_size)) in record {
          size = kept;
          within = omega (arith, kept);
          counted = sym (length-take-le (a + k) (paste o a (take k w) k) (omega (arith, kept)));
          text =
              take-paste o a (take k w) k inside (omega (arith, part_size))
              ∙ rw (take_all k (take k w) (omega (arith, part_size))) (sym copied);
        }

-- one byte, where there is room for it, and where there is none
module _ (o : List ℕ) (a x : ℕ) where
  pub appended_byte : a < length o → Appended o a (x ∷ []) (set o a x) (a + 1)
  appended_byte h = record {
    size = length-set o a x;
    within = simp length-set (omega arith);
    counted = sym (length-take-le (a + 1) (set o a x) (simp length-set (omega arith)));
    text =
        rw (add-one, take-suc-set o a x h)
        (sym (take_all (length o) (take a o ++ (x ∷ [])) (simp (length-append, length-take) (omega arith))));
  }

  pub appended_full : length o ≤ a → Appended o a (x ∷ []) o (length o)
  appended_full h = record {
    size = refl;
    within = omega arith;
    counted = sym (length-take-le (length o) o (omega arith));
    text = rw (take_all a o h) (sym (take-append-le (length o) o (x ∷ []) (omega arith)));
  }
