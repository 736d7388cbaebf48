-- A table that is filled column by column, once for every width w. A column is no part of a slice, so the whole table
-- is lent, and what comes back is that table with one column written (`with_column`).
--     ColumnTo w t c k f u             u is t with column c written down to row k
--     column_start, column_more, column_all
--                                      this holds of t and no row, of one row more when that is written, and after the
--                                      last row u is `with_column`
--     written_at, kept_at, column_built
--                                      the cells of `with_column`, and the column as a list
--     Columns w f g k t                the columns of t before column k are those of f, and the others those of g
--     columns_start, columns_more, columns_all
--                                      this holds of the table of g, and of one column more when that comes back as
--                                      f's; where the others are those of f too, t is the table of f
use Rattle.std.specs.Prelude.{ℕ, ◌+◌, ◌*◌, ◌/◌, ◌%◌, ◌<◌, ◌≤◌, ◌≡◌, refl, ◌≢◌, ◌⊎◌, List, length, get_or, set, eqb}
use Rattle.std.proofs.Common.{sym, ap, ◌∙◌, subst, inl, inr, ⊎_elim, eq-or-lt_of_le, arith, length-set}
use Rattle.std.proofs.Common.{get_or-set_same, get_or-set_other, eq-eqb, ne_eqb}
use Rattle.std.proofs.Math.Decide.{dec_lt, ℕ_discrete}
use Rattle.area.specs.Tests.{pick}
use Rattle.area.specs.Tables.{build, cell, tabulate, with_column}
use Rattle.area.proofs.TableLaws.{build_at, cell_in, row_of, column_of}
use Rattle.area.proofs.TableLaws.{length_tabulate, cell_tabulate, is_tabulate}

-- ---- one column, row by row
pub record ColumnTo (w : ℕ) (t : List ℕ) (c k : ℕ) (f : ℕ → ℕ) (u : List ℕ) : Type 0 where
  pub size : length u ≡ w * w
  pub done : (i : ℕ) → i < k → cell w u i c ≡ f i
  pub others : (i j : ℕ) → j < w → (j ≢ c) ⊎ (k ≤ i) → cell w u i j ≡ cell w t i j

pub column_start : (w : ℕ) (t : List ℕ) (c : ℕ) (f : ℕ → ℕ) → length t ≡ w * w → ColumnTo w t c 0 f t
column_start w t c f e = record {
  size = e;
  done = λ i h. absurd (let x : ⊥ = omega arith in x);
  others = λ i j h o. refl;
}

-- two cells at one place are the same cell
same_row : (w i j r c : ℕ) → j < w → c < w → w * i + j ≡ w * r + c → i ≡ r
same_row w i j r c a b e = sym (row_of w i j a) ∙ ap (λ (x : ℕ). x / w) e ∙ row_of w r c b

same_column : (w i j r c : ℕ) → j < w → c < w → w * i + j ≡ w * r + c → j ≡ c
same_column w i j r c a b e = sym (column_of w i j a) ∙ ap (λ (x : ℕ). x % w) e ∙ column_of w r c b

module _ (w : ℕ) (t : List ℕ) (c k : ℕ) (f : ℕ → ℕ) (u : List ℕ) (to : ColumnTo w t c k f u) where
  pub column_more : (v : ℕ) → k < w → c < w → v ≡ f k → ColumnTo w t c (k + 1) f (set u (w * k + c) v)
  column_more v l b e = record {
    size = length-set u (w * k + c) v ∙ to.size;
    done = λ i h. ⊎_elim (λ (q : i ≡ k). rw q new) (λ (a : i < k). old i a)
        (eq-or-lt_of_le (let x : i ≤ k = omega arith in x));
    others = λ i j h o. ⊎_elim (λ n. beside i j h n) (λ a. below i j h (omega arith)) o;
  }
    where
      new : cell w (set u (w * k + c) v) k c ≡ f k
      new = get_or-set_same u (w * k + c) v 0 (omega (arith, to.size, cell_in w k c l b)) ∙ e

      old : (i : ℕ) → i < k → cell w (set u (w * k + c) v) i c ≡ f i
      old i a =
          get_or-set_other u (w * k + c) (w * i + c) v 0
          (λ q. let x = same_row w i c k c b b q in let y : ⊥ = omega arith in y)
          ∙ to.done i a

      beside : (i j : ℕ) → j < w → j ≢ c → cell w (set u (w * k + c) v) i j ≡ cell w t i j
      beside i j h n =
          get_or-set_other u (w * k + c) (w * i + j) v 0 (λ q. n (same_column w i j k c h b q))
          ∙ to.others i j h (inl n)

      below : (i j : ℕ) → j < w → k < i → cell w (set u (w * k + c) v) i j ≡ cell w t i j
      below i j h a =
          get_or-set_other u (w * k + c) (w * i + j) v 0
          (λ q. let x = same_row w i j k c h b q in let y : ⊥ = omega arith in y)
          ∙ to.others i j h (inr (omega arith))

pub column_all :
    (w : ℕ) (t : List ℕ) (c : ℕ) (f : ℕ → ℕ) (u : List ℕ)
    → 0 < w
    → ColumnTo w t c w f u
    → u ≡ with_column w t c f
unfolding with_column
column_all w t c f u pos to =
    is_tabulate w (λ i j. pick (eqb j c) (f i) (cell w t i j)) u pos to.size
    (λ i j a b. by_column i j a b (ℕ_discrete j c))
  where
    by_column : (i j : ℕ) → i < w → j < w → Dec (j ≡ c) → cell w u i j ≡ pick (eqb j c) (f i) (cell w t i j)
    by_column i j a b (yes e) =
        ap (cell w u i) e ∙ to.done i a ∙ rw (eq-eqb j c e) refl
    by_column i j a b (no n) = to.others i j b (inl n) ∙ rw (ne_eqb j c n) refl

-- ---- the cells of a table with one column written
module _ (w : ℕ) (t : List ℕ) (c : ℕ) (f : ℕ → ℕ) (i j : ℕ) (a : i < w) (b : j < w) where
  cell_is : cell w (with_column w t c f) i j ≡ pick (eqb j c) (f i) (cell w t i j)
  unfolding with_column
  cell_is = cell_tabulate w (λ i j. pick (eqb j c) (f i) (cell w t i j)) i j a b

  pub written_at : j ≡ c → cell w (with_column w t c f) i j ≡ f i
  written_at e = cell_is ∙ rw (eq-eqb j c e) refl

  pub kept_at : j ≢ c → cell w (with_column w t c f) i j ≡ cell w t i j
  kept_at n = cell_is ∙ rw (ne_eqb j c n) refl

length_column : (w : ℕ) (t : List ℕ) (c : ℕ) (f : ℕ → ℕ) → length (with_column w t c f) ≡ w * w
unfolding with_column
length_column w t c f = length_tabulate w (λ i j. pick (eqb j c) (f i) (cell w t i j))

-- what is written is the list of f
pub column_built :
    (w : ℕ) (t : List ℕ) (c : ℕ) (f : ℕ → ℕ) (l : List ℕ)
    → 0 < w
    → l ≡ build w f
    → with_column w t c (λ i. get_or l i 0) ≡ with_column w t c f
unfolding with_column
column_built w t c f l pos e =
    is_tabulate w (λ i j. pick (eqb j c) (f i) (cell w t i j)) (with_column w t c (λ i. get_or l i 0)) pos
    (length_column w t c (λ i. get_or l i 0))
    (λ i j a b.
    cell_is w t c (λ i. get_or l i 0) i j a b
    ∙ ap (λ (x : ℕ). pick (eqb j c) x (cell w t i j)) (ap (λ (x : List ℕ). get_or x i 0) e ∙ build_at w f i a))

-- ---- columns one after another, over a table that is there before
pub record Columns (w : ℕ) (f g : ℕ → ℕ → ℕ) (k : ℕ) (t : List ℕ) : Type 0 where
  pub size : length t ≡ w * w
  pub done : (i j : ℕ) → i < w → j < k → cell w t i j ≡ f i j
  pub left : (i j : ℕ) → i < w → k ≤ j → j < w → cell w t i j ≡ g i j

pub columns_start :
    (w : ℕ) (f g : ℕ → ℕ → ℕ) (t : List ℕ)
    → length t ≡ w * w
    → ((i j : ℕ) → i < w → j < w → cell w t i j ≡ g i j)
    → Columns w f g 0 t
columns_start w f g t e all = record {
  size = e;
  done = λ i j h l. absurd (let x : ⊥ = omega arith in x);
  left = λ i j h l. all i j h;
}

pub columns_more :
    (w : ℕ) (f g : ℕ → ℕ → ℕ) (k : ℕ) (t u : List ℕ)
    → Columns w f g k t
    → k < w
    → u ≡ with_column w t k (λ i. f i k)
    → Columns w f g (k + 1) u
columns_more w f g k t u before l e = subst (Columns w f g (k + 1)) (sym e) (record {
  size = length_column w t k (λ i. f i k);
  done = λ i j a h. ⊎_elim
      (λ (q : j ≡ k). written_at w t k (λ i. f i k) i j a (omega arith) q ∙ ap (f i) (sym q))
      (λ (b : j < k). other i j a (omega arith) (λ q. let x : ⊥ = omega arith in x) ∙ before.done i j a b)
      (eq-or-lt_of_le (let x : j ≤ k = omega arith in x));
  left = λ i j a h b. other i j a b (λ q. let x : ⊥ = omega arith in x) ∙ before.left i j a (omega arith) b;
})
  where
    other : (i j : ℕ) → i < w → j < w → j ≢ k → cell w (with_column w t k (λ i. f i k)) i j ≡ cell w t i j
    other i j a b n = kept_at w t k (λ i. f i k) i j a b n

pub columns_all :
    (w : ℕ) (f g : ℕ → ℕ → ℕ) (n : ℕ) (t : List ℕ)
    → 0 < w
    → Columns w f g n t
    → ((i j : ℕ) → n ≤ j → g i j ≡ f i j)
    → t ≡ tabulate w f
columns_all w f g n t pos all same =
    is_tabulate w f t pos all.size
    (λ i j a b. elim (dec_lt j n) [
      | yes h ↦ all.done i j a h
      | no h ↦ all.left i j a (omega arith) b ∙ same i j (omega arith)
    ])
