-- The cells of two routers, and those with a row or a column from n on.
--     distance_in, hops_in, fours_in       of two routers: their distance, their next-hop set and its four lowest
--     distance_out, hops_out, fours_out    the others
--     fours_is                             any cell of the one table of sets by that of the other
use Rattle.std.specs.Prelude.{ℕ, ◌≤◌, ◌<◌, ◌≡◌, true, false, ◌&&◌, ◌⊎◌, List, ltb}
use Rattle.std.proofs.Math.Path.{refl}
use Rattle.std.proofs.Common.{ap, ◌∙◌, inl, inr, lt-ltb, le-ltb}
use Rattle.area.specs.Limits.{width, unreached}
use Rattle.area.proofs.TestLaws.{and_true, and_false}
use Rattle.sets.specs.Four.{four}
use Rattle.sets.proofs.FourLaws.{four_none}
use Rattle.topology.specs.Topology.{topology}
use Rattle.topology.specs.Distance.{distance}
use Rattle.topology.specs.NextHops.{next_hops}
use Rattle.topology.specs.Cells.{distance_cell, hop_cell, four_cell}

module _ (n : ℕ) (m : List ℕ) (i j : ℕ) where
  inside : i < n → j < n → (ltb i n && ltb j n) ≡ true
  inside a b = and_true (ltb i n) (ltb j n) (lt-ltb i n a) (lt-ltb j n b)

  outside : (n ≤ i) ⊎ (n ≤ j) → (ltb i n && ltb j n) ≡ false
  outside (inl a) = rw (le-ltb i n a) refl
  outside (inr b) = and_false (ltb i n) (ltb j n) (le-ltb j n b)

  pub distance_in : i < n → j < n → distance_cell n m i j ≡ distance n (topology n m) i j
  unfolding distance_cell
  distance_in a b = rw (inside a b) refl

  pub distance_out : (n ≤ i) ⊎ (n ≤ j) → distance_cell n m i j ≡ unreached
  unfolding distance_cell
  distance_out w = rw (outside w) refl

  pub hops_in : i < n → j < n → hop_cell n m i j ≡ next_hops width n (topology n m) i j
  unfolding hop_cell
  hops_in a b = rw (inside a b) refl

  pub hops_out : (n ≤ i) ⊎ (n ≤ j) → hop_cell n m i j ≡ 0
  unfolding hop_cell
  hops_out w = rw (outside w) refl

  pub fours_is : four_cell n m i j ≡ four width (hop_cell n m i j)
  unfolding four_cell
  fours_is = refl

  pub fours_in : i < n → j < n → four_cell n m i j ≡ four width (next_hops width n (topology n m) i j)
  fours_in a b = fours_is ∙ ap (four width) (hops_in a b)

  pub fours_out : (n ≤ i) ⊎ (n ≤ j) → four_cell n m i j ≡ 0
  fours_out w = fours_is ∙ ap (four width) (hops_out w) ∙ four_none width
