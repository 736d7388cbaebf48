-- A turn of the main loop: router q is settled, and the links from it are gone through. The contract of `relax` cites
-- this; nothing here is part of what the search promises.
--     Relaxed        what the link from q makes of one router
--     Turn           the same of router j, with the distances and the next hops before and after
--     RowsRelaxed    the same of every router, with the rows that hold them
use Rattle.std.specs.Prelude.{ℕ, ◌+◌, ◌<◌, ◌≡◌, List, get_or}
use Rattle.area.specs.Limits.{width, unused}
use Rattle.topology.specs.Topology.{topology}
use Rattle.search.specs.Offers.{first_hop, Offered}

-- q is at distance `base`, its link to a router has the metric m, and it hands on the next hops `by`. The router was at
-- distance d with the next hops h, and then has d' and h'.
pub data Relaxed (base m by d h d' h' : ℕ) : Type 0 where
  no_link : (m < unused → ⊥) → d' ≡ d → h' ≡ h → Relaxed base m by d h d' h'
  linked : m < unused → Offered (base + m) by d h d' h' → Relaxed base m by d h d' h'

-- In the topology g, D and H are the distances from s and the next hops found before the turn, D' and H' after it.
abbrev pub Turn : (g : ℕ → ℕ → ℕ) (s q : ℕ) (D H D' H' : ℕ → ℕ) (j : ℕ) → Type 0
Turn g s q D H D' H' j = Relaxed (D q) (g q j) (first_hop s q (H q) j) (D j) (H j) (D' j) (H' j)

-- what a row holds for a router
abbrev pub entry : (row : List ℕ) (j : ℕ) → ℕ
entry row j = get_or row j 0

abbrev pub RowsRelaxed : (n : ℕ) (metrics : List ℕ) (s q : ℕ) (d h d' h' : List ℕ) → Type 0
RowsRelaxed n m s q d h d' h' =
    (j : ℕ)
    → j < width
    → Turn (topology n m) s q (entry d) (entry h) (entry d') (entry h') j
