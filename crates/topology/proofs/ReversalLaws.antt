-- Walks from the other end (02, No. 11). A walk from i to j over the links of g is, read from its far end, a walk from
-- j to i over the same links turned round. Its metrics add up to the same sum from either end, so the least sum is the
-- same too: whether a search adds metrics from the source or from the destination makes no difference.
--     turned                   a topology with every link turned round
--     back                     a walk read from its far end
--     sum_back, links_back     it has the same sum, and as many links
--     distance_turned          the distance from either end
use Rattle.std.specs.Prelude.{ℕ, ◌≤◌, ◌≡◌, refl}
use Rattle.std.proofs.Math.Decide.{dec_lt}
use Rattle.std.proofs.Common.{arith}
use Rattle.area.specs.Limits.{unreached}
use Rattle.topology.specs.Topology.{Topology}
use Rattle.topology.specs.Walk.{Walk, stay, link, sum, links}
use Rattle.topology.specs.Distance.{distance}
use Rattle.topology.specs.Graph.{Graph}
use Rattle.topology.proofs.WalkLaws.{then, sum_then, links_then}
use Rattle.topology.proofs.DistanceLaws.{distance_walk, distance_le, distance_top}
use Rattle.topology.specs.Topology.{turned}

module _ {g : Topology} where
  abbrev pub back : {i j : ℕ} → Walk g i j → Walk (turned g) j i
  back stay = stay
  back (link u w) = then (back w) (link u stay)

  pub sum_back : {i j : ℕ} (w : Walk g i j) → sum (back w) ≡ sum w
  sum_back stay = refl
  sum_back (link u w) = omega (arith, sum_then (back w) (link u stay), sum_back w)

  pub links_back : {i j : ℕ} (w : Walk g i j) → links (back w) ≡ links w
  links_back stay = refl
  links_back (link u w) = omega (arith, links_then (back w) (link u stay), links_back w)

turned_graph : {n : ℕ} {g : Topology} → Graph n g → Graph n (turned g)
turned_graph G = record {
  few = G.few;
  inside = λ i k u. let l = G.inside k i u in (l.1, l.0);
  positive = λ i k. G.positive k i;
}

no_farther : {n : ℕ} {g : Topology} → Graph n g → (i j : ℕ) → distance n (turned g) j i ≤ distance n g i j
no_farther {n} {g} G i j = elim (dec_lt (distance n g i j) unreached) [
  | yes h ↦
      let w = distance_walk n g i j h in
      omega (arith, w.2, sum_back w.0, distance_le (turned_graph G) (back w.0))
  | no f ↦ omega (arith, distance_top n (turned g) j i)
]

pub distance_turned :
    {n : ℕ} {g : Topology}
    → Graph n g
    → (i j : ℕ)
    → distance n (turned g) j i ≡ distance n g i j
distance_turned G i j = omega (arith, no_farther G i j, no_farther (turned_graph G) j i)
