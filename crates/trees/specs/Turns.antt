-- A turn of the search for one destination: the nearest routers that are reached and not settled are settled, and each
-- offers its way to its neighbours. The contracts of private functions cite this; nothing here is part of what the
-- search promises.
--     entry        what a column holds for a router
--     links_to      the routers that have a used link to a router
--     Nearest      which routers are settled in a turn
--     Offered      what one offer makes of a router's distance and next hops
--     ColumnOffered, Relaxed
--                  what one offer makes of the column, and what those of one settled router make of it
--     Offers       who offers its way to whom in a turn
--     Best, Turned
--                  what all of them make of a router, and of the column
use Rattle.std.specs.Prelude.{ℕ, ◌+◌, ◌<◌, ◌≤◌, ◌≡◌, true, false, ◌≢◌, ◌⊎◌, ◌↔◌, List, ltb, get_or}
use Rattle.area.specs.Limits.{width, unused}
use Rattle.area.specs.Tables.{cell}
use Rattle.sets.specs.Sets.{bit, set_of, added, union}
use Rattle.topology.specs.Topology.{topology}

-- A column: the distances of all routers to one destination, or their next hops to it.
abbrev pub entry : (column : List ℕ) (i : ℕ) → ℕ
entry column i = get_or column i 0

-- the routers with a used link to q
abbrev pub links_to : (n : ℕ) (m : List ℕ) (q : ℕ) → ℕ
links_to n m q = set_of n (λ i. ltb (topology n m i q) unused)

-- β are members of the set s, none of s is nearer than they by the distances d, and there is one where s has a member.
-- They need not be all of the nearest: those that are left out come in a later turn.
pub record Nearest (d : List ℕ) (s β : ℕ) : Type 0 where
  pub part : (k : ℕ) → bit β k ≡ true → bit s k ≡ true
  pub first : (k j : ℕ) → bit β k ≡ true → bit s j ≡ true → entry d k ≤ entry d j
  pub some : s ≢ 0 → β ≢ 0

-- A router at distance x with the next hops h is offered `sum` by the next hops `by`. It takes what is nearer and joins
-- what is as near: then it has x' and h'.
pub data Offered (sum by x h x' h' : ℕ) : Type 0 where
  nearer : sum < x → x' ≡ sum → h' ≡ by → Offered sum by x h x' h'
  equal : sum ≡ x → x' ≡ x → h' ≡ union width h by → Offered sum by x h x' h'
  farther : x < sum → x' ≡ x → h' ≡ h → Offered sum by x h x' h'

-- Router i is offered them: d and h are the distances and the next hops before it, d' and h' after it.
pub record ColumnOffered (sum by i : ℕ) (d h d' h' : List ℕ) : Type 0 where
  pub offered : Offered sum by (entry d i) (entry h i) (entry d' i) (entry h' i)
  pub others : (k : ℕ) → k ≢ i → (entry d' k ≡ entry d k) × (entry h' k ≡ entry h k)

-- The members of the set `links` are offered the way by q, each over its link to q, and the other routers nothing.
pub record Relaxed (m : List ℕ) (q links : ℕ) (d h d' h' : List ℕ) : Type 0 where
  pub linked : (i : ℕ) → bit links i ≡ true
      → Offered (entry d q + cell width m i q) (added width 0 q) (entry d i) (entry h i) (entry d' i) (entry h' i)
  pub others : (i : ℕ) → bit links i ≡ false → (entry d' i ≡ entry d i) × (entry h' i ≡ entry h i)

-- q offers its way to i: q is settled in this turn, i has a link to it, and is not settled itself.
abbrev pub Offers : (links : List ℕ) (β settled i q : ℕ) → Type 0
Offers links β settled i q = (bit β q ≡ true) × (bit (entry links q) i ≡ true) × (bit settled i ≡ false)

-- A router at distance x with the next hops h is offered f q by each q of which Q holds. Then it has the least of all
-- these, x', and the next hops h' by which this is met: those that it had, where x is the least, and each such q.
pub record Best (Q : ℕ → Type 0) (f : ℕ → ℕ) (x h x' h' : ℕ) : Type 0 where
  pub low : x' ≤ x
  pub met : (q : ℕ) → Q q → x' ≤ f q
  pub came : (x' ≡ x) ⊎ ((q : ℕ) × Q q × (x' ≡ f q))
  pub hops : (k : ℕ) → k < width
      → (bit h' k ≡ true) ↔ (((bit h k ≡ true) × (x' ≡ x)) ⊎ (Q k × (x' ≡ f k)))

-- Every router gets all offers of a turn.
abbrev pub Turned : (m links : List ℕ) (β settled : ℕ) (d h d' h' : List ℕ) → Type 0
Turned m links β settled d h d' h' =
    (i : ℕ)
    → i < width
    → Best (Offers links β settled i) (λ q. entry d q + cell width m i q)
    (entry d i) (entry h i) (entry d' i) (entry h' i)
