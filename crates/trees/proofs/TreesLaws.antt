-- The tables that a search is lent, where the sizes are right and where one is wrong. The definitions choose by one
-- test, so each law has the answer of that test as its premise.
--     Sizes, sizes_are, sizes_true                            the sizes that a search needs, and their test
--     many_routers, other_metrics, other_distances, last_size
--                                                             the test where one is wrong, in the order of the code
--     distances_filled, hops_filled                           the tables are filled
--     distances_left, hops_left                               the tables are left as they were
--     tables                                                  what of these the code knows the tables by
use Rattle.std.specs.Prelude.{ℕ, ◌*◌, ◌<◌, ◌≤◌, ◌≡◌, true, false, ◌&&◌, ◌≢◌, List, leb, length}
use Rattle.std.proofs.Math.Path.{refl}
use Rattle.std.proofs.Math.Dec.{eqb}
use borrow.Author.Tests.{leb-true, eqb-true, le-leb, lt-leb, eq-eqb, ne_eqb}
use Rattle.area.specs.Limits.{width}
use Rattle.area.specs.Tables.{tabulate}
use Rattle.area.proofs.TestLaws.{both_true}
use Rattle.topology.specs.Cells.{distance_cell, hop_cell}
use Rattle.trees.specs.Trees.{are_sizes, distance_table, hop_table}

pub record Sizes (n cells d h : ℕ) : Type 0 where
  pub most : n ≤ width
  pub metrics : cells ≡ width * width
  pub distances : d ≡ width * width
  pub hops : h ≡ width * width

module _ (n cells d h : ℕ) where
  pub sizes_are : are_sizes n cells d h ≡ true → Sizes n cells d h
  unfolding are_sizes
  sizes_are e =
      let all = width * width in
      let a = both_true (leb n width) (eqb cells all && (eqb d all && eqb h all)) e in
      let b = both_true (eqb cells all) (eqb d all && eqb h all) a.1 in
      let c = both_true (eqb d all) (eqb h all) b.1 in
      record {
        most = leb-true n width a.0;
        metrics = eqb-true cells all b.0;
        distances = eqb-true d all c.0;
        hops = eqb-true h all c.1;
      }

  pub sizes_true : Sizes n cells d h → are_sizes n cells d h ≡ true
  unfolding are_sizes
  sizes_true s =
      rw (le-leb n width s.most, eq-eqb cells (width * width) s.metrics)
      (rw (eq-eqb d (width * width) s.distances, eq-eqb h (width * width) s.hops) refl)

  -- each size that is wrong
  pub many_routers : width < n → are_sizes n cells d h ≡ false
  unfolding are_sizes
  many_routers f = rw (lt-leb n width f) refl

  module _ (a : n ≤ width) where
    pub other_metrics : cells ≢ width * width → are_sizes n cells d h ≡ false
    unfolding are_sizes
    other_metrics f = rw (le-leb n width a, ne_eqb cells (width * width) f) refl

    module _ (b : cells ≡ width * width) where
      pub other_distances : d ≢ width * width → are_sizes n cells d h ≡ false
      unfolding are_sizes
      other_distances f =
          rw (le-leb n width a, eq-eqb cells (width * width) b, ne_eqb d (width * width) f) refl

      pub last_size : d ≡ width * width → are_sizes n cells d h ≡ eqb h (width * width)
      unfolding are_sizes
      last_size c = rw (le-leb n width a, eq-eqb cells (width * width) b, eq-eqb d (width * width) c) refl

module _ (n : ℕ) (m d h : List ℕ) where
  module _ (e : are_sizes n (length m) (length d) (length h) ≡ true) where
    pub distances_filled : distance_table n m d h ≡ tabulate width (distance_cell n m)
    unfolding distance_table
    distances_filled = rw e refl

    pub hops_filled : hop_table n m d h ≡ tabulate width (hop_cell n m)
    unfolding hop_table
    hops_filled = rw e refl

  module _ (e : are_sizes n (length m) (length d) (length h) ≡ false) where
    pub distances_left : distance_table n m d h ≡ d
    unfolding distance_table
    distances_left = rw e refl

    pub hops_left : hop_table n m d h ≡ h
    unfolding hop_table
    hops_left = rw e refl

pub ruleset tables = (sizes_are, distances_filled, hops_filled, distances_left, hops_left)
