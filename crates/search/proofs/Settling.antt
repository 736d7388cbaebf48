-- The main loop over its two rows: the argument of Dijkstra.antt, with D and H read off the rows.
--     start                      the blank rows with the source at 0 hold a front
--     room, fewer, more          a turn: its sums fit, one router more is settled, and the rows hold a front again
--     distance_row_lem, hop_row_lem      when no reached router is left, the rows are those of the definition
use mathlib.Core.Path.{◌≡◌, sym, ◌∙◌}
use mathlib.Core.Bool.{false}
use mathlib.Core.Logic.{inr}
use mathlib.Core.List.{List}
use Prim.Native.Nat.{ℕ, ◌+◌, ◌-◌, ◌^◌, ◌<◌, ◌≤◌}
use native.Mathlib.Decide.{dec_lt}
use native.Mathlib.Omega.{arith}
use lib.ListN.{length, get_or, set, length-set}
use lib.Seq.{get_or-set_same, get_or-set_other}
use Rattle.area.specs.Limits.{width, unused, unreached}
use Rattle.area.specs.Tables.{build}
use Rattle.area.proofs.TableLaws.{is_build}
use Rattle.sets.specs.Sets.{bit, added}
use Rattle.topology.specs.Topology.{topology}
use Rattle.topology.specs.Cells.{distance_cell, hop_cell}
use Rattle.topology.proofs.TopologyLaws.{topology_graph}
use Rattle.topology.proofs.CellLaws.{distance_in, distance_out, hops_in, hops_out}
use Rattle.search.specs.Nearest.{Nearest}
use Rattle.search.specs.Search.{entry, RowsRelaxed}
use Rattle.search.proofs.Dijkstra.{count, count_le, count_more}
use Rattle.search.proofs.Dijkstra.{Front, begin, small_bound, step, distances, nexts}

-- d and h are the source's rows, and what they hold is a front
pub record Settling (n : ℕ) (m : List ℕ) (s : ℕ) (d h : List ℕ) (σ : ℕ) : Type 0 where
  pub len : length d ≡ width
  pub len_h : length h ≡ width
  pub fits : (j : ℕ) → get_or h j 0 < 2 ^ width
  pub front : Front n (topology n m) s (entry d) (entry h) σ

module _ {n : ℕ} {m : List ℕ} (most : n ≤ width) {s : ℕ} (source : s < n) where
  pub start :
      (d h : List ℕ)
      → length d ≡ width
      → length h ≡ width
      → ((j : ℕ) → j < width → get_or d j 0 ≡ unreached)
      → ((j : ℕ) → j < width → get_or h j 0 ≡ 0)
      → ((j : ℕ) → get_or h j 0 < 2 ^ width)
      → Settling n m s (set d s 0) h 0
  start d h ld lh far none fits =
      record {
        len = length-set d s 0 ∙ ld;
        len_h = lh;
        fits = fits;
        front =
            begin (entry (set d s 0)) (entry h) source most
            (get_or-set_same d s 0 0 (omega arith))
            (λ j l f. get_or-set_other d s j 0 0 f ∙ far j l)
            none;
      }

  module _ {d h : List ℕ} {σ : ℕ} (f : Settling n m s d h σ) {q : ℕ} (near : Nearest n d σ q) where
    module _ (within : q < n) where
      -- the distance of the router that is taken leaves room for a metric more
      pub room : get_or d q 0 + unused ≤ unreached
      room = omega (arith, small_bound f.front q within (near.found within).1, most)

      -- one router more is settled
      pub fewer : width - count (added width σ q) n < width - count σ n
      fewer =
          let new = added width σ q in
          omega (arith, count_more σ q (omega arith) n within most (near.found within).0, count_le new n)

      pub more :
          {d' h' : List ℕ}
          → length d' ≡ width
          → length h' ≡ width
          → ((j : ℕ) → get_or h' j 0 < 2 ^ width)
          → RowsRelaxed n m s q d h d' h'
          → Settling n m s d' h' (added width σ q)
      more {d'} {h'} ld lh fits turn =
          let found = near.found within in
          record {
            len = ld;
            len_h = lh;
            fits = fits;
            front = step (topology_graph n m most) most f.front within found.0 found.1 nearest turn source;
          }
        where
          nearest : (j : ℕ) → j < n → bit σ j ≡ false → get_or d q 0 ≤ get_or d j 0
          nearest j l b = elim (dec_lt (get_or d j 0) unreached) [
            | yes r ↦ (near.first j l b r).1
            | no g ↦ omega (arith, (near.found within).1)
          ]

    module _ (none : q ≡ n) where
      left : (j : ℕ) → j < n → bit σ j ≡ false → get_or d j 0 < unreached → ⊥
      left j l b r = let x = (near.first j l b r).0 in omega arith

      -- the rows are the definition's
      pub distance_row_lem : d ≡ build width (distance_cell n m s)
      distance_row_lem = is_build width (distance_cell n m s) d f.len (λ j l. elim (dec_lt j n) [
        | yes b ↦
            distances (topology_graph n m most) most source f.front left j b
            ∙ sym (distance_in n m s j source b)
        | no g ↦ (f.front.rest j (omega arith) l).0 ∙ sym (distance_out n m s j (inr (omega arith)))
      ])

      pub hop_row_lem : h ≡ build width (hop_cell n m s)
      hop_row_lem = is_build width (hop_cell n m s) h f.len_h (λ j l. elim (dec_lt j n) [
        | yes b ↦
            nexts (topology_graph n m most) most source f.front left j b (f.fits j)
            ∙ sym (hops_in n m s j source b)
        | no g ↦ (f.front.rest j (omega arith) l).1 ∙ sym (hops_out n m s j (inr (omega arith)))
      ])
