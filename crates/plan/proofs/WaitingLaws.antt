-- Laws of who waits for whom, who tells whom, and what is due.
--     old_next, new_next           the members of the old and the new hop sets are the next hops
--     waits_rise, waits_fall       whom a router waits for, by next hops towards the root
--     tells_waits, waits_inside    telling is waiting seen from the other end; both ends are routers of the area
--     waiting_distinct, waiting_rank, waiting_less     waiting never goes round in a circle, so ranks are over chains
--                                  of any length, and a router ranks above those it waits for
--     due_at, due_inside           what is due, destination by destination; every one is a router of the area
--     old_four_lem, new_four_lem           a set of four is the four lowest of the full set
-- In a rise a router waits for those farther from the root in the old topology, in a fall for those nearer to it in the
-- new one. So a distance to the root bounds every chain of waiting, and the laws of ranks apply.
use Rattle.std.specs.Prelude.{ℕ, ◌-◌, ◌≤◌, ◌<◌, ◌≡◌, refl, Bool, false, ◌≢◌, ◌↔◌, List, eqb}
use Rattle.std.proofs.Common.{sym, ◌∙◌, ⊎_elim, arith}
use Rattle.std.proofs.Math.Bool.{true, not}
use Rattle.std.proofs.Math.Logic.Iff as Iff
use borrow.Author.Tests.{eqb-false, ne_eqb, not-true}
use Rattle.area.specs.Limits.{width, unreached}
use Rattle.area.specs.Tests.{pick}
use Rattle.area.proofs.TestLaws.{look}
use Rattle.sets.specs.Sets.{bit, set_of}
use Rattle.sets.proofs.SetLaws.{set_of_lt, bit_lt, bit_set_of}
use Rattle.sets.specs.Four.{four}
use Rattle.topology.specs.Topology.{topology}
use Rattle.topology.proofs.TopologyLaws.{topology_graph}
use Rattle.topology.specs.Distance.{distance}
use Rattle.topology.proofs.DistanceLaws.{distance_top}
use Rattle.topology.specs.NextHops.{next_hops, Next}
use Rattle.topology.proofs.NextHopLaws.{bit_next, next_set, next_nearer}
use Rattle.area.specs.Lists.{Distinct}
use Rattle.ranks.specs.Rank.{Chain, routers, rank, IsRank}
use Rattle.ranks.proofs.RankLaws.{chain_distinct, rank_is, rank_less}
use Rattle.changes.specs.Root.{root}
use Rattle.plan.specs.NewMetrics.{new_metrics}
use Rattle.plan.specs.Direction.{is_rise}
use Rattle.plan.specs.Waiting.{old_hops, new_hops, old_fours, new_fours, waiting, telling, due}

-- the members of a set, where the test holds of none beyond its width
set_is :
    (w : ℕ) (p : ℕ → Bool) (k : ℕ)
    → (p k ≡ true → k < w)
    → (bit (set_of w p) k ≡ true) ↔ (p k ≡ true)
set_is w p k inside = (
  (λ e. sym (bit_set_of w p k (bit_lt w (set_of w p) k (set_of_lt w p) e)) ∙ e),
  (λ e. bit_set_of w p k (inside e) ∙ e),
)

-- ---- next hops in one topology
module _ (n : ℕ) (m : List ℕ) (most : n ≤ width) where
  next_inside : (i j k : ℕ) → Next n (topology n m) i j k → (i < n) × (k < n)
  next_inside i j k x = (topology_graph n m most).inside i k x.uses

  -- a next hop is below n, so no set is too narrow for it
  hops_next : (i j k : ℕ) → (bit (next_hops width n (topology n m) i j) k ≡ true) ↔ Next n (topology n m) i j k
  hops_next i j k = (
    bit_next width n (topology n m) i j k,
    (λ x. next_set width (omega (arith, (next_inside i j k x).1)) x),
  )

module _ (n : ℕ) (m l : List ℕ) (most : n ≤ width) where
  pub old_next : (i j k : ℕ) → (bit (old_hops n m i j) k ≡ true) ↔ Next n (topology n m) i j k
  unfolding old_hops
  old_next = hops_next n m most

  pub new_next : (i j k : ℕ) → (bit (new_hops n m l i j) k ≡ true) ↔ Next n (topology n (new_metrics n m l)) i j k
  unfolding new_hops
  new_next = hops_next n (new_metrics n m l) most

  -- ---- who waits for whom
  -- in a rise r waits for s exactly if r is a next hop from s to the root in the old topology
  pub waits_rise :
      is_rise n m l ≡ true
      → (r s : ℕ) → (bit (waiting n m l r) s ≡ true) ↔ Next n (topology n m) s (root l) r
  unfolding waiting
  waits_rise rise r s =
      let o = old_next s (root l) r in
      let inside : bit (old_hops n m s (root l)) r ≡ true → s < n =
      λ e. (next_inside n m most s (root l) r (o.0 e)).0 in
      rw rise (Iff.trans (set_is n (λ s. bit (old_hops n m s (root l)) r) s inside) o)

  -- otherwise, in a fall, exactly if s is a next hop from r to the root in the new one
  pub waits_fall :
      is_rise n m l ≡ false
      → (r s : ℕ) → (bit (waiting n m l r) s ≡ true) ↔ Next n (topology n (new_metrics n m l)) r (root l) s
  unfolding waiting
  waits_fall fall r s = rw fall (new_next r (root l) s)

  pub waits_inside : (r s : ℕ) → bit (waiting n m l r) s ≡ true → (r < n) × (s < n)
  waits_inside r s e =
      ⊎_elim (λ t. let b = next_inside n m most s (root l) r ((waits_rise t r s).0 e) in (b.1, b.0))
      (λ f. next_inside n (new_metrics n m l) most r (root l) s ((waits_fall f r s).0 e))
      (look (is_rise n m l))

  -- ---- s tells t exactly when t waits for s
  pub tells_waits : (s t : ℕ) → (bit (telling n m l s) t ≡ true) ↔ (bit (waiting n m l t) s ≡ true)
  unfolding telling
  tells_waits s t = set_is n (λ t. bit (waiting n m l t) s) t (λ e. (waits_inside t s e).0)

  -- ---- ranks
  -- Waiting goes away from the root in a rise, and towards it in a fall: in both it comes down in this measure.
  abbrev measure : ℕ → ℕ
  measure r =
      pick (is_rise n m l)
      (unreached - distance n (topology n m) r (root l))
      (distance n (topology n (new_metrics n m l)) r (root l))

  waits_down : (r s : ℕ) → bit (waiting n m l r) s ≡ true → measure s < measure r
  waits_down r s e =
      ⊎_elim
      (λ t.
      let nearer = next_nearer (topology_graph n m most) ((waits_rise t r s).0 e) in
      rw t (omega (arith, nearer, distance_top n (topology n m) s (root l))))
      (λ f. rw f (next_nearer (topology_graph n (new_metrics n m l) most) ((waits_fall f r s).0 e)))
      (look (is_rise n m l))

  -- waiting never goes round in a circle
  pub waiting_distinct : {r : ℕ} (c : Chain (waiting n m l) r) → Distinct (routers c)
  waiting_distinct = chain_distinct n (waiting n m l) waits_inside measure waits_down

  -- so the rank is over chains of any length
  pub waiting_rank : (r : ℕ) → IsRank (waiting n m l) r (rank n (waiting n m l) r)
  waiting_rank = rank_is n (waiting n m l) waits_inside measure waits_down

  pub waiting_less :
      (r s : ℕ)
      → bit (waiting n m l r) s ≡ true
      → rank n (waiting n m l) s < rank n (waiting n m l) r
  waiting_less = rank_less n (waiting n m l) waits_inside measure waits_down

  -- ---- what is due, destination by destination
  pub due_at : (r d : ℕ) → d < n → (bit (due n m l r) d ≡ true) ↔ (old_fours n m r d ≢ new_fours n m l r d)
  unfolding due
  due_at r d h =
      let a = old_fours n m r d in
      let b = new_fours n m l r d in
      Iff.trans
      (set_is n (λ d. not (eqb (old_fours n m r d) (new_fours n m l r d))) d (λ e. h))
      ((λ e. eqb-false a b (not-true (eqb a b) e)), (λ f. rw (ne_eqb a b f) refl))

pub due_inside : (n : ℕ) (m l : List ℕ) (r d : ℕ) → bit (due n m l r) d ≡ true → d < n
unfolding due
due_inside n m l r d e =
    bit_lt n (due n m l r) d (set_of_lt n (λ d. not (eqb (old_fours n m r d) (new_fours n m l r d)))) e

-- ---- a set of four by the full set
pub old_four_lem : (n : ℕ) (m : List ℕ) (i j : ℕ) → old_fours n m i j ≡ four width (old_hops n m i j)
unfolding old_fours
old_four_lem n m i j = refl

pub new_four_lem : (n : ℕ) (m l : List ℕ) (i j : ℕ) → new_fours n m l i j ≡ four width (new_hops n m l i j)
unfolding new_fours
new_four_lem n m l i j = refl
