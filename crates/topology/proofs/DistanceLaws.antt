-- Laws of distances. A proof about distances cites these and does not open `distance`.
-- The least of the sums that are listed is that of a walk. No walk has less: it can be made to take at most n - 1 links
-- at no larger sum, and then its sum is listed. And n - 1 metrics do not come to `unreached`.
--     distance_walk        a distance that is reached is the sum of a walk
--     distance_le          no walk has less
--     walk_near            where there is a walk, the distance is below `unreached`
--     distance_is          so `distance` is what 01 means
--     same_distance        and nothing else is
--     distance_top         it is at most `unreached`
--     distance_bound       below that, it is at most (n - 1) * 16777214
--     distance_self        the distance to oneself is 0
--     distance_link        over a first link
--     distance_back        over a last link
--     distance_through     through a third router
--     some_last            a distance that is reached ends with a link
use Rattle.std.specs.Prelude.{ℕ, min, ◌+◌, ◌-◌, ◌*◌, ◌≤◌, ◌<◌, ◌≡◌, ◌≢◌, List, [], ◌∷◌}
use Rattle.std.proofs.Common.{inl, inr, sym, subst, arith}
use Rattle.std.proofs.Math.Nat.{min-eq_left}
use Rattle.std.proofs.Math.Decide.{dec_le, dec_lt}
use Rattle.area.specs.Limits.{unused, unreached}
use Rattle.area.specs.Lists.{◌∈◌}
use Rattle.topology.specs.Topology.{Topology}
use Rattle.topology.specs.Walk.{Walk, stay, link, sum, links}
use Rattle.topology.specs.Distance.{IsDistance, reached, apart, sums, least, distance}
use Rattle.topology.specs.Graph.{Graph}
use Rattle.topology.proofs.WalkLaws.{then, sum_then, Last, here, last, by_last, shorten}
use Rattle.topology.proofs.SumLaws.{sums_sound, sums_complete}

-- ---- the least of a list
least_le : (x : ℕ) (l : List ℕ) → x ∈ l → least l ≤ x
unfolding least
least_le x [] m = absurd m
least_le x (y ∷ l) (inl e) = omega arith
least_le x (y ∷ l) (inr m) = omega (arith, least_le x l m)

pub least_top : (l : List ℕ) → least l ≤ unreached
unfolding least
least_top [] = omega arith
least_top (x ∷ l) = omega (arith, least_top l)

least_in : (l : List ℕ) → least l < unreached → least l ∈ l
unfolding least
least_in [] h = absurd (omega arith)
least_in (x ∷ l) h = elim (dec_le x (least l)) [
  | yes p ↦ inl (min-eq_left p)
  | no q ↦
      let e : min x (least l) ≡ least l = omega arith in
      inr (subst (λ (m : ℕ). m ∈ l) (sym e) (least_in l (omega arith)))
]

-- ---- `distance` is the distance
pub sum_bound : {g : Topology} {i j : ℕ} (w : Walk g i j) → sum w ≤ links w * 16777214
sum_bound stay = omega arith
sum_bound (link u w) = omega (arith, sum_bound w)

pub distance_top : (n : ℕ) (g : Topology) (i j : ℕ) → distance n g i j ≤ unreached
unfolding distance
distance_top n g i j = least_top (sums n g (n - 1) i j)

-- a distance that is not `unreached` is the sum of a walk
pub distance_walk :
    (n : ℕ) (g : Topology) (i j : ℕ)
    → distance n g i j < unreached
    → (w : Walk g i j) × (links w ≤ n - 1) × (sum w ≡ distance n g i j)
unfolding distance
distance_walk n g i j h =
    let listed = sums n g (n - 1) i j in
    sums_sound n g (n - 1) i j (least listed) (least_in listed h)

pub distance_bound :
    (n : ℕ) (g : Topology) (i j : ℕ)
    → distance n g i j < unreached
    → distance n g i j ≤ (n - 1) * 16777214
distance_bound n g i j h = let w = distance_walk n g i j h in omega (arith, w.1, w.2, sum_bound w.0)

module _ {n : ℕ} {g : Topology} (G : Graph n g) where
  -- no walk's sum is less
  pub distance_le : {i j : ℕ} (w : Walk g i j) → distance n g i j ≤ sum w
  unfolding distance
  distance_le {i} {j} w =
      let v = shorten G w in
      let listed = sums_complete G v.0 (n - 1) v.1 in
      omega (arith, v.2, least_le (sum v.0) (sums n g (n - 1) i j) listed)

  -- where there is a walk, the distance is not `unreached`
  pub walk_near : {i j : ℕ} → Walk g i j → distance n g i j < unreached
  walk_near w = let v = shorten G w in omega (arith, G.few, distance_le v.0, v.1, sum_bound v.0)

  pub distance_is : (i j : ℕ) → IsDistance g i j (distance n g i j)
  distance_is i j = elim (dec_lt (distance n g i j) unreached) [
    | yes h ↦ let w = distance_walk n g i j h in reached w.0 w.2 distance_le h
    | no f ↦ apart (λ w. f (walk_near w)) (omega (arith, distance_top n g i j))
  ]

-- nothing else is the distance
pub same_distance : {g : Topology} {i j δ ε : ℕ} → IsDistance g i j δ → IsDistance g i j ε → δ ≡ ε
same_distance (reached w e f l) (reached w' e' f' l') = omega (arith, f w', f' w)
same_distance (reached w e f l) (apart z e') = absurd (z w)
same_distance (apart z e) (reached w' e' f' l') = absurd (z w')
same_distance (apart z e) (apart z' e') = omega arith

-- ---- over links, and through other routers
-- the last link of a least walk from i to j is one from some router p
abbrev pub EndsWithLink : (n : ℕ) (g : Topology) (i j : ℕ) → Type 0
EndsWithLink n g i j = (p : ℕ) × (g p j < unused) × (distance n g i p + g p j ≡ distance n g i j)

module _ {n : ℕ} {g : Topology} (G : Graph n g) where
  pub distance_self : (i : ℕ) → distance n g i i ≡ 0
  distance_self i = omega (arith, distance_le G (stay {i = i}))

  pub distance_link : (i k j : ℕ) → g i k < unused → distance n g i j ≤ g i k + distance n g k j
  distance_link i k j u = elim (dec_lt (distance n g k j) unreached) [
    | yes h ↦ let w = distance_walk n g k j h in omega (arith, w.2, distance_le G (link u w.0))
    | no f ↦ omega (arith, distance_top n g i j)
  ]

  pub distance_through : (i k j : ℕ) → distance n g i j ≤ distance n g i k + distance n g k j
  distance_through i k j = elim (dec_lt (distance n g i k + distance n g k j) unreached) [
    | yes h ↦
        let w = distance_walk n g i k (omega arith) in
        let v = distance_walk n g k j (omega arith) in
        omega (arith, w.2, v.2, sum_then w.0 v.0, distance_le G (then w.0 v.0))
    | no f ↦ omega (arith, distance_top n g i j)
  ]

  pub distance_back : (i k j : ℕ) → g k j < unused → distance n g i j ≤ distance n g i k + g k j
  distance_back i k j u = omega (arith, distance_through i k j, distance_link k j j u, distance_self j)

  -- A distance that is not `unreached`, nor that from a router to itself, ends with a link. It starts with one too:
  -- `some_next` of NextHopLaws.antt.
  last_hop :
      {i j : ℕ}
      → i ≢ j
      → (w : Walk g i j)
      → sum w ≡ distance n g i j
      → Last w
      → EndsWithLink n g i j
  last_hop f w e (here q z) = absurd (f q)
  last_hop {i} {j} f w e (last p v u q) = (p, u, omega (arith, distance_le G v, distance_back i p j u))

  pub some_last : (i j : ℕ) → i ≢ j → distance n g i j < unreached → EndsWithLink n g i j
  some_last i j f h = let w = distance_walk n g i j h in last_hop f w.0 w.2 (by_last w.0)
