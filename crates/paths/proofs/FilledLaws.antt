-- The cells of the tables of a topology, for n routers with the metrics m.
--     distances_at, hops_at, fours_at      the distances of two routers; the next hops to a router, and the set of four
--     fours_cell                           a set of four by the next-hop set beside it
--     distances_beyond, hops_beyond, fours_beyond      the cells with a row or a column from n on
--     distances_size, hops_size, fours_size            each has the size of a table
--     fours_mapped                         a table of the sets of four of a next-hop table
-- Each table is made cell by cell, and the laws of crate topology say what a cell is. A row from n on has no next hops,
-- and neither has such a router.
use Rattle.std.specs.Prelude.{ℕ, ◌*◌, ◌≤◌, ◌<◌, ◌≡◌, ◌⊎◌, List, length, get_or}
use Rattle.std.proofs.Math.Path.{sym, ap}
use Rattle.std.proofs.Common.{◌∙◌, inl}
use Rattle.std.proofs.Math.Decide.{dec_lt}
use native.Mathlib.Omega.{arith}
use Rattle.std.proofs.Math.ListN.{get_or-eq_default}
use Rattle.area.specs.Limits.{width, unreached}
use Rattle.area.specs.Tables.{build, cell, tabulate}
use Rattle.area.proofs.TableLaws.{length_tabulate, cell_tabulate, tabulate_mapped}
use Rattle.sets.specs.Four.{four}
use Rattle.sets.proofs.FourLaws.{four_none}
use Rattle.topology.specs.Topology.{topology}
use Rattle.topology.proofs.TopologyLaws.{topology_graph}
use Rattle.topology.specs.Distance.{distance}
use Rattle.topology.specs.NextHops.{next_hops}
use Rattle.topology.proofs.NextHopLaws.{no_next_beyond}
use Rattle.topology.specs.Cells.{distance_cell, hop_cell, four_cell}
use Rattle.topology.proofs.CellLaws.{distance_in, distance_out, hops_in, hops_out, fours_is}
use Rattle.paths.specs.Paths.{filled_paths}

module _ (n : ℕ) (m : List ℕ) where
  -- ---- sizes
  pub distances_size : length (filled_paths n m).distances ≡ width * width
  unfolding filled_paths
  distances_size = length_tabulate width (distance_cell n m)

  pub hops_size : length (filled_paths n m).hops ≡ width * width
  unfolding filled_paths
  hops_size = length_tabulate width (hop_cell n m)

  pub fours_size : length (filled_paths n m).fours ≡ width * width
  unfolding filled_paths
  fours_size = length_tabulate width (four_cell n m)

  -- ---- what code does: every set is cut
  pub fours_mapped :
      (hops : List ℕ)
      → hops ≡ tabulate width (hop_cell n m)
      → build (width * width) (λ k. four width (get_or hops k 0)) ≡ tabulate width (four_cell n m)
  fours_mapped hops e = tabulate_mapped width (hop_cell n m) (four width) (four_cell n m) hops e (fours_is n m)

  -- ---- cells
  module _ (i j : ℕ) where
    -- a table has no cells from its last row on, and what is not there is read as 0
    no_cell : (t : List ℕ) → length t ≡ width * width → width ≤ i → cell width t i j ≡ 0
    no_cell t size out = get_or-eq_default t 0 (omega arith)

    pub fours_cell :
        j < width
        → cell width (filled_paths n m).fours i j ≡ four width (cell width (filled_paths n m).hops i j)
    unfolding filled_paths
    fours_cell b = elim (dec_lt i width) [
      | yes a ↦
          cell_tabulate width (four_cell n m) i j a b
          ∙ fours_is n m i j
          ∙ ap (four width) (sym (cell_tabulate width (hop_cell n m) i j a b))
      | no f ↦
          no_cell (filled_paths n m).fours fours_size (omega arith)
          ∙ sym (four_none width)
          ∙ ap (four width) (sym (no_cell (filled_paths n m).hops hops_size (omega arith)))
    ]

    module _ (a : i < width) (b : j < width) (out : (n ≤ i) ⊎ (n ≤ j)) where
      pub distances_beyond : cell width (filled_paths n m).distances i j ≡ unreached
      unfolding filled_paths
      distances_beyond = cell_tabulate width (distance_cell n m) i j a b ∙ distance_out n m i j out

      pub hops_beyond : cell width (filled_paths n m).hops i j ≡ 0
      unfolding filled_paths
      hops_beyond = cell_tabulate width (hop_cell n m) i j a b ∙ hops_out n m i j out

      pub fours_beyond : cell width (filled_paths n m).fours i j ≡ 0
      fours_beyond = fours_cell b ∙ ap (four width) hops_beyond ∙ four_none width

    module _ (most : n ≤ width) where
      pub distances_at :
          i < n → j < n
          → cell width (filled_paths n m).distances i j ≡ distance n (topology n m) i j
      unfolding filled_paths
      distances_at a b =
          cell_tabulate width (distance_cell n m) i j (omega arith) (omega arith)
          ∙ distance_in n m i j a b

      no_hops : n ≤ i → j < n → cell width (filled_paths n m).hops i j ≡ 0
      no_hops out b = elim (dec_lt i width) [
        | yes h ↦ hops_beyond h (omega arith) (inl out)
        | no f ↦ no_cell (filled_paths n m).hops hops_size (omega arith)
      ]

      pub hops_at : j < n → cell width (filled_paths n m).hops i j ≡ next_hops width n (topology n m) i j
      unfolding filled_paths
      hops_at b = elim (dec_lt i n) [
        | yes a ↦
            cell_tabulate width (hop_cell n m) i j (omega arith) (omega arith)
            ∙ hops_in n m i j a b
        | no f ↦
            let out : n ≤ i = omega arith in
            no_hops out b ∙ sym (no_next_beyond (topology_graph n m most) width i j out)
      ]

      pub fours_at :
          j < n
          → cell width (filled_paths n m).fours i j ≡ four width (next_hops width n (topology n m) i j)
      fours_at b = fours_cell (omega arith) ∙ ap (four width) (hops_at b)
