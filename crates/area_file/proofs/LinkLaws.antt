-- Laws of the links that are listed.
--     listed_is, is_listed_lem         a cell is listed exactly where this is known of it: `Listed`
--     All, all_joined, all_at      what holds of each link of a list
--     all_listed                   what holds of each cell that is listed holds of each link
--     listed_most, links_most      how many there are: a cell, and a router to each other one, at most
--     listed_less                  they are in the order of their cells
--     listed_found                 each listed cell has its link
use Rattle.std.specs.Prelude.{ℕ, zero, suc, ◌+◌, ◌*◌, ◌-◌, ◌/◌, ◌%◌, ◌≤◌, ◌<◌, min, ◌≡◌, true, false, not, ◌≢◌, ◌⊎◌}
use Rattle.std.specs.Prelude.{List, [], ◌∷◌, ◌++◌, eqb, ltb, length, get_or}
use Rattle.std.proofs.Math.Path.{refl}
use Rattle.std.proofs.Common.{sym, ◌∙◌, subst, inl, inr, ⊎_elim, not-suc-le-zero, le_of_suc-le-suc, eq-or-lt_of_le}
use Rattle.std.proofs.Common.{suc-mul, arith, length-append}
use Rattle.std.proofs.lemmas.Bool.{false≢true}
use Rattle.std.proofs.Math.Decide.{ℕ_discrete}
use borrow.Author.Tests.{lt-ltb, ne_eqb, ltb-true, eqb-false, not-true}
use Rattle.std.proofs.Math.ListN.{get_or-append}
use Rattle.std.proofs.Math.Seq.{get_or-append_seam}
use Rattle.area.specs.Limits.{width, unused}
use Rattle.area.proofs.TestLaws.{look, both_true}
use Rattle.entries.specs.declared.Entry.{Entry}
use Rattle.area_file.specs.AreaFile.{link, is_listed, link_of, listed, links_of}

-- ---- a cell that is listed
pub record Listed (n k metric : ℕ) : Type 0 where
  pub to_in : k % width < n
  pub apart : k / width ≢ k % width
  pub used : metric < unused

module _ (n k metric : ℕ) where
  pub listed_is : is_listed n k metric ≡ true → Listed n k metric
  unfolding is_listed
  listed_is t =
      let a = both_true (ltb (k % width) n) _ t in
      let b = both_true (not (eqb (k / width) (k % width))) (ltb metric unused) a.1 in
      record {
        to_in = ltb-true (k % width) n a.0;
        apart = eqb-false (k / width) (k % width) (not-true (eqb (k / width) (k % width)) b.0);
        used = ltb-true metric unused b.1;
      }

  pub is_listed_lem : Listed n k metric → is_listed n k metric ≡ true
  unfolding is_listed
  is_listed_lem x =
      rw (lt-ltb (k % width) n x.to_in, ne_eqb (k / width) (k % width) x.apart, lt-ltb metric unused x.used)
      refl

-- ---- what holds of each link of a list
abbrev pub All : (P : Entry → Type 0) (l : List Entry) → Type 0
All P [] = Unit {0}
All P (x ∷ l) = P x × All P l

pub all_joined : (P : Entry → Type 0) (l m : List Entry) → All P l → All P m → All P (l ++ m)
all_joined P [] m a b = b
all_joined P (x ∷ l) m a b = (a.0, all_joined P l m a.1 b)

pub all_at :
    (P : Entry → Type 0) (l : List Entry)
    → All P l
    → (e : ℕ) (d : Entry)
    → e < length l
    → P (get_or l e d)
all_at P [] a e d h = absurd (not-suc-le-zero h)
all_at P (x ∷ l) a zero d h = a.0
all_at P (x ∷ l) a (suc e) d h = all_at P l a.1 e d (le_of_suc-le-suc h)

-- one cell more: its link, or nothing
pub cell_cases :
    (n k metric : ℕ)
    → (Listed n k metric × (link_of n k metric ≡ link (k / width) (k % width) metric ∷ []))
    ⊎ ((Listed n k metric → ⊥) × (link_of n k metric ≡ []))
cell_cases n k metric = by_test (look (is_listed n k metric))
  where
    by_test :
        (is_listed n k metric ≡ true) ⊎ (is_listed n k metric ≡ false)
        → (Listed n k metric × (link_of n k metric ≡ link (k / width) (k % width) metric ∷ []))
        ⊎ ((Listed n k metric → ⊥) × (link_of n k metric ≡ []))
    by_test (inl t) = inl (listed_is n k metric t, rw t refl)
    by_test (inr f) = inr ((λ x. false≢true (sym f ∙ is_listed_lem n k metric x)), rw f refl)

module _ (n : ℕ) (m : List ℕ) where
  pub listed_none : listed n m 0 ≡ []
  unfolding listed
  listed_none = refl

  pub listed_next : (k : ℕ) → listed n m (suc k) ≡ listed n m k ++ link_of n k (get_or m k 0)
  unfolding listed
  listed_next k = refl

  pub all_listed :
      (P : Entry → Type 0) (k : ℕ)
      → ((d : ℕ) → d < k → Listed n d (get_or m d 0) → P (link (d / width) (d % width) (get_or m d 0)))
      → All P (listed n m k)
  all_listed P zero each = rw listed_none tt
  all_listed P (suc k) each =
      rw (listed_next k)
      (all_joined P (listed n m k) (link_of n k (get_or m k 0)) (all_listed P k (λ d h. each d (omega arith))) last)
    where
      last : All P (link_of n k (get_or m k 0))
      last =
          ⊎_elim
          (λ c. rw c.1 (each k (omega arith) c.0, tt))
          (λ c. rw c.1 tt)
          (cell_cases n k (get_or m k 0))

  -- ---- how many: one for a cell at most
  next_length :
      (k : ℕ)
      → (Listed n k (get_or m k 0) × (length (listed n m (suc k)) ≡ length (listed n m k) + 1))
      ⊎ (length (listed n m (suc k)) ≡ length (listed n m k))
  next_length k =
      ⊎_elim
      (λ c. inl (c.0, rw (listed_next k, length-append, c.1) refl))
      (λ c. inr (rw (listed_next k, length-append, c.1) (omega arith)))
      (cell_cases n k (get_or m k 0))

  pub listed_most : (k : ℕ) → length (listed n m k) ≤ k
  listed_most zero = rw listed_none (omega arith)
  listed_most (suc k) =
      let before = listed_most k in
      ⊎_elim (λ c. omega (arith, c.1)) (λ c. omega arith) (next_length k)

  -- ---- and one for each pair of two routers
  -- so many of the first j cells of row i: one for each router below j, but none for i itself
  abbrev RowMost : (i j : ℕ) → Type 0
  RowMost i j =
      ((j ≤ i) × (length (listed n m (width * i + j)) ≤ length (listed n m (width * i)) + min j n))
      ⊎ ((i < j) × (length (listed n m (width * i + j)) + 1 ≤ length (listed n m (width * i)) + min j n))

  row_most : (i j : ℕ) → i < n → j ≤ width → RowMost i j
  row_most i zero a b =
      let same : width * i + 0 ≡ width * i = omega arith in
      inl (omega arith, rw same (omega arith))
  row_most i (suc j) a b =
      by_cell (row_most i j a (omega arith)) (next_length (width * i + j)) (ℕ_discrete i j)
    where
      place : width * i + suc j ≡ suc (width * i + j)
      place = omega arith

      by_cell :
          RowMost i j
          → ((Listed n (width * i + j) (get_or m (width * i + j) 0)
          × (length (listed n m (suc (width * i + j))) ≡ length (listed n m (width * i + j)) + 1))
          ⊎ (length (listed n m (suc (width * i + j))) ≡ length (listed n m (width * i + j))))
          → Dec (i ≡ j)
          → RowMost i (suc j)
      by_cell (inl h) (inl c) (yes e) = absurd (c.0.apart (omega arith))
      by_cell (inl h) (inl c) (no f) = let q = c.0.to_in in inl (omega arith, rw place (omega (arith, c.1)))
      by_cell (inl h) (inr c) (yes e) = inr (omega arith, rw place (omega arith))
      by_cell (inl h) (inr c) (no f) = inl (omega arith, rw place (omega arith))
      by_cell (inr h) (inl c) d = let q = c.0.to_in in inr (omega arith, rw place (omega (arith, c.1)))
      by_cell (inr h) (inr c) d = inr (omega arith, rw place (omega arith))

  rows_most : (i : ℕ) → i ≤ n → n ≤ width → length (listed n m (width * i)) ≤ i * (n - 1)
  rows_most zero a b = rw listed_none (omega arith)
  rows_most (suc i) a b = by_row (row_most i width (omega arith) (omega arith)) (rows_most i (omega arith) b)
    where
      next : width * suc i ≡ width * i + width
      next = omega arith

      by_row :
          RowMost i width
          → length (listed n m (width * i)) ≤ i * (n - 1)
          → length (listed n m (width * suc i)) ≤ suc i * (n - 1)
      by_row (inl h) ih = absurd (let x : ⊥ = omega arith in x)
      by_row (inr h) ih = rw (next, suc-mul i (n - 1)) (omega arith)

  pub links_most : n ≤ width → length (links_of n m) ≤ n * (n - 1)
  links_most h = rows_most n (omega arith) h

-- ---- the order of the links
-- the cell of a link
abbrev pub key : (x : Entry) → ℕ
key x = width * x.from + x.to

-- each link is of a later cell than the one before it; all of them from cell `low` on, and below `high`
abbrev Rising : (low high : ℕ) (l : List Entry) → Type 0
Rising low high [] = low ≤ high
Rising low high (x ∷ l) = (low ≤ key x) × Rising (suc (key x)) high l

sooner : (a b c : ℕ) (l : List Entry) → a ≤ b → Rising b c l → Rising a c l
sooner a b c [] h r = omega arith
sooner a b c (x ∷ l) h r = (omega (arith, r.0), r.1)

rising_joined : (a b c : ℕ) (l m : List Entry) → Rising a b l → Rising b c m → Rising a c (l ++ m)
rising_joined a b c [] m x y = sooner a b c m x y
rising_joined a b c (z ∷ l) m x y = (x.0, rising_joined (suc (key z)) b c l m x.1 y)

rising_listed : (n : ℕ) (m : List ℕ) (k : ℕ) → Rising 0 k (listed n m k)
rising_listed n m zero = rw (listed_none n m) (omega arith)
rising_listed n m (suc k) =
    rw (listed_next n m k)
    (rising_joined 0 k (suc k) (listed n m k) (link_of n k (get_or m k 0)) (rising_listed n m k) last)
  where
    last : Rising k (suc k) (link_of n k (get_or m k 0))
    last =
        ⊎_elim
        (λ c. rw c.1 (omega arith, omega arith))
        (λ c. rw c.1 (omega arith))
        (cell_cases n k (get_or m k 0))

rising_least :
    (low high : ℕ) (l : List Entry)
    → Rising low high l
    → (e : ℕ) (z : Entry)
    → e < length l
    → low ≤ key (get_or l e z)
rising_least low high [] r e z h = absurd (not-suc-le-zero h)
rising_least low high (x ∷ l) r zero z h = r.0
rising_least low high (x ∷ l) r (suc e) z h =
    omega (arith, r.0, rising_least (suc (key x)) high l r.1 e z (le_of_suc-le-suc h))

rising_less :
    (low high : ℕ) (l : List Entry)
    → Rising low high l
    → (d e : ℕ) (z : Entry)
    → d < e
    → e < length l
    → key (get_or l d z) < key (get_or l e z)
rising_less low high [] r d e z b h = absurd (not-suc-le-zero h)
rising_less low high (x ∷ l) r d zero z b h = absurd (not-suc-le-zero b)
rising_less low high (x ∷ l) r zero (suc e) z b h =
    rising_least (suc (key x)) high l r.1 e z (le_of_suc-le-suc h)
rising_less low high (x ∷ l) r (suc d) (suc e) z b h =
    rising_less (suc (key x)) high l r.1 d e z (le_of_suc-le-suc b) (le_of_suc-le-suc h)

pub listed_less :
    (n : ℕ) (m : List ℕ) (k d e : ℕ) (z : Entry)
    → d < e
    → e < length (listed n m k)
    → key (get_or (listed n m k) d z) < key (get_or (listed n m k) e z)
listed_less n m k = rising_less 0 k (listed n m k) (rising_listed n m k)

-- ---- each listed cell has its link: cell d is in the list l
abbrev Found : (m : List ℕ) (d : ℕ) (z : Entry) (l : List Entry) → Type 0
Found m d z l = (e : ℕ) × (e < length l) × (get_or l e z ≡ link (d / width) (d % width) (get_or m d 0))

found_last :
    (n : ℕ) (m : List ℕ) (k : ℕ) (z : Entry)
    → Listed n k (get_or m k 0)
    → Found m k z (listed n m k ++ link_of n k (get_or m k 0))
found_last n m k z x = by_cell (cell_cases n k (get_or m k 0))
  where
    own : Entry
    own = link (k / width) (k % width) (get_or m k 0)

    by_cell :
        (Listed n k (get_or m k 0) × (link_of n k (get_or m k 0) ≡ own ∷ []))
        ⊎ ((Listed n k (get_or m k 0) → ⊥) × (link_of n k (get_or m k 0) ≡ []))
        → Found m k z (listed n m k ++ link_of n k (get_or m k 0))
    by_cell (inr c) = absurd (c.0 x)
    by_cell (inl c) =
        let size = length-append (listed n m k) (own ∷ []) in
        rw c.1 (
          length (listed n m k),
          omega arith,
          get_or-append_seam (listed n m k) own [] z,
        )

pub listed_found :
    (n : ℕ) (m : List ℕ) (k d : ℕ) (z : Entry)
    → d < k
    → Listed n d (get_or m d 0)
    → Found m d z (listed n m k)
listed_found n m zero d z h x = absurd (not-suc-le-zero h)
listed_found n m (suc k) d z h x =
    rw (listed_next n m k) (by_place (eq-or-lt_of_le (le_of_suc-le-suc h)) (λ b. listed_found n m k d z b x))
  where
    by_place :
        (d ≡ k) ⊎ (d < k)
        → (d < k → Found m d z (listed n m k))
        → Found m d z (listed n m k ++ link_of n k (get_or m k 0))
    by_place (inl q) ih =
        subst (λ (i : ℕ). Found m i z (listed n m k ++ link_of n k (get_or m k 0))) (sym q)
        (found_last n m k z (subst (λ (i : ℕ). Listed n i (get_or m i 0)) q x))
    by_place (inr b) ih =
        let y = ih b in
        let size = length-append (listed n m k) (link_of n k (get_or m k 0)) in (
          y.0,
          omega (arith, y.1),
          get_or-append (listed n m k) (link_of n k (get_or m k 0)) z y.0 y.1 ∙ y.2,
        )
