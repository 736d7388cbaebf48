-- The loop over the links from router q.
--     Relaxing          the routers below j were offered the way by q, and the cells of the others are as they were
--     relaxing_begin    so it is at the start
--     relaxing_link     a turn with a link offers
--     relaxing_none     a turn with none changes nothing
--     relaxing_end      no link goes to a router from n on, so the rows are relaxed when those below n are gone through
use Rattle.std.proofs.Common.{ℕ, ◌+◌, ◌<◌, ◌≤◌, ◌≡◌, List, length, get_or, refl, arith}
use native.Mathlib.Decide.{dec_lt}
use Rattle.area.specs.Limits.{unused}
use Rattle.topology.specs.Topology.{topology}
use Rattle.topology.proofs.TopologyLaws.{metric_link}
use Rattle.search.specs.Offers.{first_hop, RowsOffered}
use Rattle.search.specs.Search.{Relaxed, no_link, linked, RowsRelaxed}
use Rattle.search.proofs.Sweep.{Swept, swept_none, swept_more, swept_same}

-- the rows were d₀ and h₀ when the loop began, and are d and h before the turn of router j
pub record Relaxing (n : ℕ) (m : List ℕ) (s q : ℕ) (d₀ h₀ d h : List ℕ) (j : ℕ) : Type 0 where
  pub swept :
      Swept (λ k. Relaxed (get_or d₀ q 0) (topology n m q k) (first_hop s q (get_or h₀ q 0) k)) d₀ h₀ d h j

module _ (n : ℕ) (m : List ℕ) (s q : ℕ) (d₀ h₀ : List ℕ) where
  pub relaxing_begin : Relaxing n m s q d₀ h₀ d₀ h₀ 0
  relaxing_begin = record { swept = swept_none _ _ _ }

  module _ (d h : List ℕ) (j x : ℕ) (r : Relaxing n m s q d₀ h₀ d h j) (is_metric : x ≡ topology n m q j) where
    pub relaxing_link :
        (d' h' : List ℕ) (by : ℕ)
        → x < unused
        → by ≡ first_hop s q (get_or h₀ q 0) j
        → RowsOffered (get_or d₀ q 0 + x) by j d h d' h'
        → length d' ≡ length d
        → length h' ≡ length h
        → Relaxing n m s q d₀ h₀ d' h' (j + 1)
    relaxing_link d' h' by u is_by o ld lh =
        let offer = rw (is_metric, is_by) at o.offered in
        record {
          swept = swept_more _ _ _ d h d' h' j r.swept ld lh (linked (omega arith) offer) o.others;
        }

    pub relaxing_none : unused ≤ x → Relaxing n m s q d₀ h₀ d h (j + 1)
    relaxing_none f =
        let none : topology n m q j < unused → ⊥ = λ u. omega arith in
        record { swept = swept_same _ _ _ d h j r.swept (no_link none refl refl) }

  pub relaxing_end :
      (d h : List ℕ) → Relaxing n m s q d₀ h₀ d h n → RowsRelaxed n m s q d₀ h₀ d h
  relaxing_end d h r = λ j l. elim (dec_lt j n) [
    | yes b ↦ r.swept.done j b
    | no f ↦
        let e = r.swept.rest j (omega arith) in
        no_link (λ u. let x = (metric_link n m q j u).to in omega arith) e.0 e.1
  ]
