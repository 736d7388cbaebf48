-- The rows that a search is lent, where the sizes are right and where one is wrong. The definitions choose by one test,
-- so each law has the answer of that test as its premise.
--     Sizes, sizes_are, sizes_true                        the sizes that a search needs, and their test
--     many_routers, other_table, other_row, last_size     the test where one is wrong, in the order of the code
--     distances_row, hops_row                             the rows are filled
--     distances_left, hops_left                           the rows are left as they were
use Rattle.std.specs.Prelude.{ℕ, ◌*◌, ◌<◌, ◌≤◌, ◌≡◌, true, false, ◌&&◌, ◌≢◌, List, leb, length}
use Rattle.std.proofs.Math.Path.{refl}
use Rattle.std.proofs.Math.Dec.{eqb}
use borrow.Author.Tests.{leb-true, eqb-true, le-leb, lt-leb, eq-eqb, ne_eqb}
use Rattle.area.specs.Limits.{width}
use Rattle.area.specs.Tables.{build}
use Rattle.area.proofs.TestLaws.{both_true}
use Rattle.topology.specs.Cells.{distance_cell, hop_cell}
use Rattle.search.specs.Rows.{are_sizes, distance_row, hop_row}

pub record Sizes (n cells d h : ℕ) : Type 0 where
  pub most : n ≤ width
  pub table : cells ≡ width * width
  pub row : d ≡ width
  pub row_h : h ≡ width

module _ (n cells d h : ℕ) where
  pub sizes_are : are_sizes n cells d h ≡ true → Sizes n cells d h
  unfolding are_sizes
  sizes_are e =
      let a = both_true (leb n width) (eqb cells (width * width) && (eqb d width && eqb h width)) e in
      let b = both_true (eqb cells (width * width)) (eqb d width && eqb h width) a.1 in
      let c = both_true (eqb d width) (eqb h width) b.1 in
      record {
        most = leb-true n width a.0;
        table = eqb-true cells (width * width) b.0;
        row = eqb-true d width c.0;
        row_h = eqb-true h width c.1;
      }

  pub sizes_true :
      n ≤ width
      → cells ≡ width * width
      → d ≡ width
      → h ≡ width
      → are_sizes n cells d h ≡ true
  unfolding are_sizes
  sizes_true a b c e = rw (le-leb n width a, eq-eqb cells (width * width) b, eq-eqb d width c, eq-eqb h width e) refl

  -- each size that is wrong
  pub many_routers : width < n → are_sizes n cells d h ≡ false
  unfolding are_sizes
  many_routers f = rw (lt-leb n width f) refl

  module _ (a : n ≤ width) where
    pub other_table : cells ≢ width * width → are_sizes n cells d h ≡ false
    unfolding are_sizes
    other_table f = rw (le-leb n width a, ne_eqb cells (width * width) f) refl

    module _ (b : cells ≡ width * width) where
      pub other_row : d ≢ width → are_sizes n cells d h ≡ false
      unfolding are_sizes
      other_row f = rw (le-leb n width a, eq-eqb cells (width * width) b, ne_eqb d width f) refl

      pub last_size : d ≡ width → are_sizes n cells d h ≡ eqb h width
      unfolding are_sizes
      last_size c = rw (le-leb n width a, eq-eqb cells (width * width) b, eq-eqb d width c) refl

module _ (n : ℕ) (m : List ℕ) (s : ℕ) (d h : List ℕ) where
  module _ (e : are_sizes n (length m) (length d) (length h) ≡ true) where
    pub distances_row : distance_row n m s d h ≡ build width (distance_cell n m s)
    unfolding distance_row
    distances_row = rw e refl

    pub hops_row : hop_row n m s d h ≡ build width (hop_cell n m s)
    unfolding hop_row
    hops_row = rw e refl

  module _ (e : are_sizes n (length m) (length d) (length h) ≡ false) where
    pub distances_left : distance_row n m s d h ≡ d
    unfolding distance_row
    distances_left = rw e refl

    pub hops_left : hop_row n m s d h ≡ h
    unfolding hop_row
    hops_left = rw e refl

-- the laws by which code knows the two rows
pub ruleset rows = (sizes_are, distances_row, hops_row, distances_left, hops_left)
