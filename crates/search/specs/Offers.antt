-- An offer to a router: it can be had at the distance `sum` by the next hops `by`. The contracts of src/offers.rt cite
-- this; nothing here is part of what the search promises.
--     first_hop       the next hops that a settled router hands on
--     Offered        what an offer makes of one router's distance and next hops
--     RowsOffered    what it makes of the rows of a source
use Rattle.std.specs.Prelude.{ℕ, ◌<◌, ◌≡◌, ◌≢◌, List, eqb, get_or}
use Rattle.area.specs.Limits.{width}
use Rattle.area.specs.Tests.{pick}
use Rattle.sets.specs.Sets.{added, union}

-- the next hops from s to j by way of q: j itself where q is s, and else q's own
abbrev pub first_hop : (s q own j : ℕ) → ℕ
first_hop s q own j = pick (eqb q s) (added width 0 j) own

-- A router at distance d with the next hops h is offered `sum` and `by`. It takes what is nearer and joins what is as
-- near: then it has d' and h'.
pub data Offered (sum by d h d' h' : ℕ) : Type 0 where
  nearer : sum < d → d' ≡ sum → h' ≡ by → Offered sum by d h d' h'
  equal : sum ≡ d → d' ≡ d → h' ≡ union width h by → Offered sum by d h d' h'
  farther : d < sum → d' ≡ d → h' ≡ h → Offered sum by d h d' h'

-- Router j is offered them: d and h are the rows of distances and of next hops before it, d' and h' after it.
pub record RowsOffered (sum by j : ℕ) (d h d' h' : List ℕ) : Type 0 where
  pub offered : Offered sum by (get_or d j 0) (get_or h j 0) (get_or d' j 0) (get_or h' j 0)
  pub others : (k : ℕ) → k ≢ j → (get_or d' k 0 ≡ get_or d k 0) × (get_or h' k 0 ≡ get_or h k 0)
