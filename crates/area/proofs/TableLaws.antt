-- Laws of tables, once for every width w. The place of the cell (i, j) is w * i + j, and division by w gives i and j
-- back: so a table is known by its cells.
--     length_build, replicate_is, build_at, is_build     a list by its elements
--     Front, front_none, front_more        a list that is written from its first element on
--     rows_le, cell_in, row_of, column_of  the places of cells
--     length_tabulate, cell_tabulate, is_tabulate, places_tabulate
--                                          a table by its cells, and by its places
--     tabulate_mapped                      a table made place by place from another
use Rattle.std.specs.Prelude.{ℕ, zero, suc, ◌+◌, ◌*◌, ◌/◌, ◌%◌, ◌≤◌, ◌<◌, ◌≡◌, refl, List, ◌∷◌, length, get_or, set}
use Rattle.std.specs.Prelude.{replicate}
use Rattle.std.proofs.Common.{sym, ap, ap₂, ◌∙◌, ⊎_elim, not-suc-le-zero, eq-or-lt_of_le, mul-le-mul_left, mul_comm}
use Rattle.std.proofs.Common.{div-add-mod', div-lt_iff_lt-mul, mod-lt, mod-eq_of_lt, arith, ext_get_or}
use Rattle.std.proofs.Common.{get_or-set_same, get_or-set_other}
use Rattle.std.proofs.Math.Nat.{add-mul-div_right, add-mul-mod_self_right, div-eq_of_lt}
use Rattle.area.specs.Tables.{build, cell, tabulate}

pub length_build : (n : ℕ) (f : ℕ → ℕ) → length (build n f) ≡ n
unfolding build
length_build zero f = refl
length_build (suc n) f = ap suc (length_build n (λ k. f (suc k)))

-- a list of one number, over and over
pub replicate_is : (n x : ℕ) → replicate n x ≡ build n (λ _. x)
unfolding build
replicate_is zero x = refl
replicate_is (suc n) x = ap (λ l. x ∷ l) (replicate_is n x)

pub build_at : (n : ℕ) (f : ℕ → ℕ) (k : ℕ) → k < n → get_or (build n f) k 0 ≡ f k
unfolding build
build_at zero f k h = absurd (not-suc-le-zero h)
build_at (suc n) f zero h = refl
build_at (suc n) f (suc k) h = build_at n (λ x. f (suc x)) k (omega arith)

pub is_build :
    (n : ℕ) (f : ℕ → ℕ) (l : List ℕ)
    → length l ≡ n
    → ((k : ℕ) → k < n → get_or l k 0 ≡ f k)
    → l ≡ build n f
is_build n f l e g =
    ext_get_or 0 l (build n f) (e ∙ sym (length_build n f))
    (λ k h. let x : k < n = omega arith in g k x ∙ sym (build_at n f k x))

-- ---- a loop that writes the elements from the first on: those before k are f's
abbrev pub Front : (k : ℕ) (f : ℕ → ℕ) (t : List ℕ) → Type 0
Front k f t = (i : ℕ) → i < k → get_or t i 0 ≡ f i

pub front_none : (f : ℕ → ℕ) (t : List ℕ) → Front 0 f t
front_none f t i h = absurd (not-suc-le-zero h)

pub front_more :
    (k : ℕ) (f : ℕ → ℕ) (t : List ℕ) (v : ℕ)
    → Front k f t
    → k < length t
    → v ≡ f k
    → Front (k + 1) f (set t k v)
front_more k f t v front l e i h =
    ⊎_elim
    (λ (q : i ≡ k). rw q (get_or-set_same t k v 0 l ∙ e))
    (λ (b : i < k). get_or-set_other t k i v 0 (λ q. let x : ⊥ = omega arith in x) ∙ front i b)
    (eq-or-lt_of_le (let x : i ≤ k = omega arith in x))

-- ---- rows and columns
-- the rows before row i have w * i cells, so row i ends before row r starts
pub rows_le : (w i r : ℕ) → i < r → w * i + w ≤ w * r
rows_le w i r h = omega (arith, mul-le-mul_left w h)

pub cell_in : (w i j : ℕ) → i < w → j < w → w * i + j < w * w
cell_in w i j a b = omega (arith, rows_le w i w a)

pub row_of : (w i j : ℕ) → j < w → (w * i + j) / w ≡ i
row_of w i j h =
    ap (λ (x : ℕ). x / w) (omega (arith, mul_comm w i))
    ∙ add-mul-div_right j i (omega arith)
    ∙ rw (div-eq_of_lt h) (omega arith)

pub column_of : (w i j : ℕ) → j < w → (w * i + j) % w ≡ j
column_of w i j h =
    ap (λ (x : ℕ). x % w) (omega (arith, mul_comm w i))
    ∙ add-mul-mod_self_right j i w
    ∙ mod-eq_of_lt h

pub length_tabulate : (w : ℕ) (f : ℕ → ℕ → ℕ) → length (tabulate w f) ≡ w * w
unfolding tabulate
length_tabulate w f = length_build (w * w) (λ k. f (k / w) (k % w))

pub cell_tabulate :
    (w : ℕ) (f : ℕ → ℕ → ℕ) (i j : ℕ)
    → i < w
    → j < w
    → cell w (tabulate w f) i j ≡ f i j
unfolding tabulate
cell_tabulate w f i j a b =
    build_at (w * w) (λ k. f (k / w) (k % w)) (w * i + j) (cell_in w i j a b)
    ∙ ap₂ f (row_of w i j b) (column_of w i j b)

-- a list of w * w cells is the table of f where each place has what f gives
pub places_tabulate :
    (w : ℕ) (f : ℕ → ℕ → ℕ) (t : List ℕ)
    → length t ≡ w * w
    → Front (w * w) (λ k. f (k / w) (k % w)) t
    → t ≡ tabulate w f
unfolding tabulate
places_tabulate w f t e g = is_build (w * w) (λ k. f (k / w) (k % w)) t e g

-- the same, cell by cell
pub is_tabulate :
    (w : ℕ) (f : ℕ → ℕ → ℕ) (t : List ℕ)
    → 0 < w
    → length t ≡ w * w
    → ((i j : ℕ) → i < w → j < w → cell w t i j ≡ f i j)
    → t ≡ tabulate w f
is_tabulate w f t pos e g =
    places_tabulate w f t e
    (λ k h. ap (λ (x : ℕ). get_or t x 0) (place k) ∙ g (k / w) (k % w) ((div-lt_iff_lt-mul pos).1 h) (mod-lt k pos))
  where
    place : (k : ℕ) → k ≡ w * (k / w) + k % w
    place k = omega (arith, div-add-mod' k w, mul_comm w (k / w))

-- a table that has at each place what g makes of another table's is the table of what g makes of its cells
pub tabulate_mapped :
    (w : ℕ) (f : ℕ → ℕ → ℕ) (g : ℕ → ℕ) (h : ℕ → ℕ → ℕ) (t : List ℕ)
    → t ≡ tabulate w f
    → ((i j : ℕ) → h i j ≡ g (f i j))
    → build (w * w) (λ k. g (get_or t k 0)) ≡ tabulate w h
unfolding tabulate
tabulate_mapped w f g h t e same =
    is_build (w * w) (λ k. h (k / w) (k % w)) (build (w * w) (λ k. g (get_or t k 0)))
    (length_build (w * w) (λ k. g (get_or t k 0)))
    (λ k l.
    build_at (w * w) (λ k. g (get_or t k 0)) k l
    ∙ ap (λ (u : List ℕ). g (get_or u k 0)) e
    ∙ ap g (build_at (w * w) (λ k. f (k / w) (k % w)) k l)
    ∙ sym (same (k / w) (k % w)))
