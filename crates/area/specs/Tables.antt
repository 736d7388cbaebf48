-- Tables (01, "The area and its paths"): w rows of w cells, one after another.
use Rattle.std.specs.Prelude.{ℕ, zero, suc, ◌+◌, ◌*◌, ◌/◌, ◌%◌, List, [], ◌∷◌, ltb, eqb, get_or}
use Rattle.area.specs.Tests.{pick}

-- f 0, f 1, .. f (n - 1)
unfoldable pub build : (n : ℕ) (f : ℕ → ℕ) → List ℕ
build zero f = []
build (suc n) f = let h = f 0 in h ∷ build n (λ k. f (suc k))

-- the cell of (i, j) in the table t; `get_or t k 0` is element k of t, and 0 where t has none
abbrev pub cell : (w : ℕ) (t : List ℕ) (i j : ℕ) → ℕ
cell w t i j = get_or t (w * i + j) 0

-- the table whose cell (i, j) is f i j
unfoldable pub tabulate : (w : ℕ) (f : ℕ → ℕ → ℕ) → List ℕ
tabulate w f = build (w * w) (λ k. f (k / w) (k % w))

-- the table t with column c written: f i in row i of it, and every other cell as it was
unfoldable pub with_column : (w : ℕ) (t : List ℕ) (c : ℕ) (f : ℕ → ℕ) → List ℕ
with_column w t c f = tabulate w (λ i j. pick (eqb j c) (f i) (cell w t i j))

-- a table per router: w entries, f r for each router r below n and 0 from n on
unfoldable pub per_router : (w n : ℕ) (f : ℕ → ℕ) → List ℕ
per_router w n f = build w (λ r. pick (ltb r n) (f r) 0)
