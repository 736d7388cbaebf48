-- A table that is filled row by row, once for every width w: row r is lent, `&mut t[w * r..w * r + w]`, and comes back
-- as ys. What is put back changes that row alone, so the rows before it stay.
--     lent_row w r t, with_row w r t ys  the row that is lent, and the table with ys put back there
--     lent_length                      what is lent is a row long
--     Rows w f r t                     the rows of t before row r are those of f
--     rows_none, rows_more             this holds of no row, and of one row more when that comes back as f's
--     rows_all                         and after the last row t is the table of f
--     lent_at                          a cell of the row that is lent
--     RowsOver w f g r t               the rows before row r are those of f, and the others those of g
--     over_start, over_lent, over_more, over_all
--                                      this holds of the table of g; what is lent then; with one row more; after n rows
use Rattle.std.specs.Prelude.{ℕ, ◌+◌, ◌*◌, ◌-◌, ◌<◌, ◌≤◌, ◌≡◌, refl, List, ◌++◌, length, get_or, take, drop, ltb}
use Rattle.std.proofs.Common.{sym, ap, ◌∙◌, subst, ⊎_elim, arith, eq-or-lt_of_le, length-take, length-drop}
use Rattle.std.proofs.Common.{get_or-take, get_or-drop, get_or-append-add, length-take-le, lt-ltb, le-ltb}
use Rattle.std.proofs.Math.Decide.{dec_lt}
use Rattle.std.proofs.Math.ListN.{get_or-append}
use borrow.Rule.Slice.PartMut.{put_mid, post_of, same_len_mid, drop_put}
use Rattle.area.specs.Tests.{pick}
use Rattle.area.specs.Tables.{build, cell, tabulate}
use Rattle.area.proofs.TableLaws.{build_at, rows_le, length_tabulate, cell_tabulate, is_tabulate}

-- Row r of t as it is lent, and t with ys put back there. The bounds are written as the code has them.
abbrev pub lent_row : (w r : ℕ) (t : List ℕ) → List ℕ
lent_row w r t = take (w * r + w - w * r) (drop (w * r) t)

abbrev pub with_row : (w r : ℕ) (t ys : List ℕ) → List ℕ
with_row w r t ys = put_mid (w * r) (w * r + w - w * r) t ys

-- ---- k elements of a list from place a on, lent and come back
module _ (a k : ℕ) (xs : List ℕ) (fits : a + k ≤ length xs) where
  part_length : length (take k (drop a xs)) ≡ k
  part_length = simp (length-take, length-drop) (omega arith)

  module _ (ys : List ℕ) (size : length ys ≡ k) where
    front : length (take a xs) ≡ a
    front = length-take-le a xs (omega arith)

    put_before : (i : ℕ) → i < a → get_or (put_mid a k xs ys) i 0 ≡ get_or xs i 0
    put_before i l =
        get_or-append (take a xs) (ys ++ post_of a k xs) 0 i (omega (arith, front))
        ∙ get_or-take a xs i 0 l

    put_in : (j : ℕ) → j < k → get_or (put_mid a k xs ys) (a + j) 0 ≡ get_or ys j 0
    put_in j l =
        let tail : List ℕ = ys ++ post_of a k xs in
        subst (λ (n : ℕ). get_or (put_mid a k xs ys) (n + j) 0 ≡ get_or tail j 0) front
        (get_or-append-add (take a xs) tail j 0)
        ∙ get_or-append ys (post_of a k xs) 0 j (omega arith)

-- ---- row r of a table
module _ (w : ℕ) (t : List ℕ) (size : length t ≡ w * w) (r : ℕ) (within : r < w) where
  fits : w * r + (w * r + w - w * r) ≤ length t
  fits = omega (arith, rows_le w r w within)

  pub lent_length : length (lent_row w r t) ≡ w
  lent_length = part_length (w * r) (w * r + w - w * r) t fits ∙ omega arith

  pub lent_at : (j : ℕ) → j < w → get_or (lent_row w r t) j 0 ≡ cell w t r j
  lent_at j l = get_or-take (w * r + w - w * r) (drop (w * r) t) j 0 (omega arith) ∙ get_or-drop (w * r) t j 0

  module _ (ys : List ℕ) (same : length ys ≡ length (lent_row w r t)) where
    row : length ys ≡ w * r + w - w * r
    row = same ∙ part_length (w * r) (w * r + w - w * r) t fits

    back_length : length (with_row w r t ys) ≡ w * w
    back_length = same_len_mid (w * r) (w * r + w - w * r) t ys same ∙ size

    back_row : (j : ℕ) → j < w → cell w (with_row w r t ys) r j ≡ get_or ys j 0
    back_row j l = put_in (w * r) (w * r + w - w * r) t fits ys row j (omega arith)

    back_above : (i j : ℕ) → i < r → j < w → cell w (with_row w r t ys) i j ≡ cell w t i j
    back_above i j b l =
        let above = rows_le w i r b in
        put_before (w * r) (w * r + w - w * r) t fits ys row (w * i + j) (omega arith)

    back_below : (i j : ℕ) → r < i → cell w (with_row w r t ys) i j ≡ cell w t i j
    back_below i j b =
        let below = rows_le w r i b in
        let end : ℕ = w * r + w in
        let far : ℕ = w * i + j - end in
        let place : w * i + j ≡ end + far = omega arith in
        let kept = drop_put (w * r) end t ys (omega arith) (omega (arith, fits)) row in
        subst (λ (x : ℕ). get_or (with_row w r t ys) x 0 ≡ get_or t x 0) (sym place)
        (sym (get_or-drop end (with_row w r t ys) far 0)
        ∙ ap (λ (x : List ℕ). get_or x far 0) kept
        ∙ get_or-drop end t far 0)

-- ---- all rows, one after another
pub record Rows (w : ℕ) (f : ℕ → ℕ → ℕ) (r : ℕ) (t : List ℕ) : Type 0 where
  pub size : length t ≡ w * w
  pub done : (i j : ℕ) → i < r → j < w → cell w t i j ≡ f i j

pub rows_none : (w : ℕ) (f : ℕ → ℕ → ℕ) (t : List ℕ) → length t ≡ w * w → Rows w f 0 t
rows_none w f t e = record { size = e; done = λ i j l h. absurd (let x : ⊥ = omega arith in x) }

pub rows_more :
    (w : ℕ) (f : ℕ → ℕ → ℕ) (r : ℕ) (t : List ℕ)
    → Rows w f r t
    → r < w
    → (ys : List ℕ)
    → length ys ≡ length (lent_row w r t)
    → ys ≡ build w (f r)
    → Rows w f (r + 1) (with_row w r t ys)
rows_more w f r t rows l ys same e = record {
  size = back_length w t rows.size r l ys same;
  done = λ i j b h. ⊎_elim (λ (q : i ≡ r). rw q (last j h)) (λ (b : i < r). before i j b h)
      (eq-or-lt_of_le (let x : i ≤ r = omega arith in x));
}
  where
    last : (j : ℕ) → j < w → cell w (with_row w r t ys) r j ≡ f r j
    last j h =
        back_row w t rows.size r l ys same j h
        ∙ ap (λ (x : List ℕ). get_or x j 0) e
        ∙ build_at w (f r) j h

    before : (i j : ℕ) → i < r → j < w → cell w (with_row w r t ys) i j ≡ f i j
    before i j b h = back_above w t rows.size r l ys same i j b h ∙ rows.done i j b h

pub rows_all : (w : ℕ) (f : ℕ → ℕ → ℕ) (t : List ℕ) → 0 < w → Rows w f w t → t ≡ tabulate w f
rows_all w f t pos rows = is_tabulate w f t pos rows.size rows.done

-- ---- some rows, over a table that is there before
pub record RowsOver (w : ℕ) (f g : ℕ → ℕ → ℕ) (r : ℕ) (t : List ℕ) : Type 0 where
  pub size : length t ≡ w * w
  pub done : (i j : ℕ) → i < r → j < w → cell w t i j ≡ f i j
  pub left : (i j : ℕ) → r ≤ i → i < w → j < w → cell w t i j ≡ g i j

pub over_start : (w : ℕ) (f g : ℕ → ℕ → ℕ) (t : List ℕ) → t ≡ tabulate w g → RowsOver w f g 0 t
over_start w f g t e = record {
  size = ap length e ∙ length_tabulate w g;
  done = λ i j l h. absurd (let x : ⊥ = omega arith in x);
  left = λ i j l a b. ap (λ (x : List ℕ). cell w x i j) e ∙ cell_tabulate w g i j a b;
}

module _ (w : ℕ) (f g : ℕ → ℕ → ℕ) (r : ℕ) (t : List ℕ) (rows : RowsOver w f g r t) where
  pub over_lent : r < w → (j : ℕ) → j < w → get_or (lent_row w r t) j 0 ≡ g r j
  over_lent l j h = lent_at w t rows.size r l j h ∙ rows.left r j (omega arith) l h

  pub over_more :
      r < w
      → (ys : List ℕ)
      → length ys ≡ length (lent_row w r t)
      → ys ≡ build w (f r)
      → RowsOver w f g (r + 1) (with_row w r t ys)
  over_more l ys same e =
      let before : Rows w f r t = record { size = rows.size; done = rows.done } in
      let after = rows_more w f r t before l ys same e in
      record {
        size = after.size;
        done = after.done;
        left = λ i j b a h.
            back_below w t rows.size r l ys same i j (omega arith)
            ∙ rows.left i j (omega arith) a h;
      }

  pub over_all : 0 < w → t ≡ tabulate w (λ i j. pick (ltb i r) (f i j) (g i j))
  over_all pos =
      is_tabulate w (λ i j. pick (ltb i r) (f i j) (g i j)) t pos rows.size
      (λ i j a b. cells i j a b (dec_lt i r))
    where
      cells : (i j : ℕ) → i < w → j < w → Dec (i < r) → cell w t i j ≡ pick (ltb i r) (f i j) (g i j)
      cells i j a b (yes h) = rows.done i j h b ∙ rw (lt-ltb i r h) refl
      cells i j a b (no n) = rows.left i j (omega arith) a b ∙ rw (le-ltb i r (omega arith)) refl
