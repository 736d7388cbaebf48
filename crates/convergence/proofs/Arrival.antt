-- A walk along the pointers from a router that reaches the destination d can be prolonged to d, and then has at most
-- n - 1 links. Each router that it meets reaches d in the topology by which it points, and so points to some router.
-- The walk can go on until it stands at d, and it must come to that, since no router comes twice.
--     walk_short           a walk has at most n - 1 links
--     Arriving             what is known of each router that the walk meets
--     arriving_points      it points to some router, if it is not d
--     on                   so the walk goes on, to d or as far as is asked
--     arrival              and as far as n links it cannot go
use Rattle.std.specs.Prelude.{ℕ, zero, suc, ◌-◌, ◌≤◌, ◌<◌, ◌≡◌, refl, true, ◌≢◌, ◌⊎◌, List, [], ◌∷◌, ◌++◌, length}
use Rattle.std.proofs.Common.{◌∙◌, inl, inr, ⊎_elim, arith}
use Rattle.std.proofs.Math.Decide.{ℕ_discrete}
use Rattle.area.specs.Limits.{unreached}
use Rattle.area.proofs.PigeonholeLaws.{pigeonhole}
use Rattle.sets.specs.Sets.{bit}
use Rattle.topology.specs.Topology.{Topology}
use Rattle.topology.specs.Walk.{Walk, stay, link}
use Rattle.topology.specs.Distance.{distance}
use Rattle.topology.specs.Graph.{Graph}
use Rattle.topology.proofs.DistanceLaws.{distance_walk}
use Rattle.topology.proofs.NextHopLaws.{next_nearer, some_next}
use Rattle.convergence.specs.Pointers.{Pointers, Along, last, Prolonged}
use Rattle.convergence.specs.Change.{Part}
use Rattle.convergence.proofs.PointerLaws.{along_join, along_below, last_join}
use Rattle.convergence.proofs.ThroughRoot.{lower_distance}
use Rattle.convergence.proofs.Separation.{Moment, LoFrom, lo_next, hi_next, separation, lo_on, lo_nearer}
use Rattle.convergence.proofs.NoLoop.{no_router_twice}

-- what reaches one of the n routers is one of them
walk_in : {n : ℕ} {g : Topology} → Graph n g → {x d : ℕ} → d < n → Walk g x d → x < n
walk_in G h stay = h
walk_in G h (link {i} {k} u w) = (G.inside i k u).0

near_in : {n : ℕ} {g : Topology} → Graph n g → (x d : ℕ) → d < n → distance n g x d < unreached → x < n
near_in {n} {g} G x d h r = walk_in G h (distance_walk n g x d r).0

module _ {n c d : ℕ} {lo hi : Topology} {at-lo at-hi p : Pointers} (s : Moment n c d lo hi at-lo at-hi p) where
  -- ---- a walk is short, since no router comes twice
  pointed_in : (x k : ℕ) → bit (p x) k ≡ true → k < n
  pointed_in x k b =
      ⊎_elim
      (λ e. (s.change.lo_graph.inside x k (lo_next s x k e b).uses).1)
      (λ e. (s.change.hi_graph.inside x k (hi_next s x k e b).uses).1)
      (s.either x)

  walk_short : (x : ℕ) (l : List ℕ) → x < n → Along p x l → length l ≤ n - 1
  walk_short x l h a =
      let below = along_below p n pointed_in x l h a in
      omega (arith, pigeonhole n (x ∷ l) (no_router_twice s x l a) below)

  -- ---- the routers that a walk meets: they reach d in hi, or, from one that points by lo alone onwards, in lo
  abbrev Arriving : (x : ℕ) → Type 0
  Arriving x = (distance n hi x d < unreached) ⊎ (LoFrom at-lo p x × (distance n lo x d < unreached))

  arriving_in : (x : ℕ) → d < n → Arriving x → x < n
  arriving_in x h (inl r) = near_in s.change.hi_graph x d h r
  arriving_in x h (inr t) = near_in s.change.lo_graph x d h t.1

  arriving_on : (x k : ℕ) → Arriving x → bit (p x) k ≡ true → Arriving k
  arriving_on x k t b = go (ℕ_discrete (p x) (at-hi x)) t
    where
      in_lo : LoFrom at-lo p x → distance n lo x d < unreached → Arriving k
      in_lo f r = inr (lo_on s x k f b, omega (arith, lo_nearer s x k f b))

      go : Dec (p x ≡ at-hi x) → Arriving x → Arriving k
      go (yes e) (inl r) = inl (omega (arith, next_nearer s.change.hi_graph (hi_next s x k e b)))
      go (no f) (inl r) = in_lo (separation s x f) (omega (arith, lower_distance s.change x d))
      go e (inr t) = in_lo t.0 t.1

  arriving_along : (x : ℕ) (l : List ℕ) → Arriving x → Along p x l → Arriving (last x l)
  arriving_along x [] t a = t
  arriving_along x (k ∷ l) t a = arriving_along k l (arriving_on x k t a.0) a.1

  -- ---- such a router, if it is not d, points to some router: it has a next hop, so its set has a member
  points :
      {g : Topology} {f : Pointers}
      → Graph n g
      → Part n d g f
      → (x : ℕ)
      → x ≢ d
      → distance n g x d < unreached
      → p x ≡ f x
      → (k : ℕ) × (bit (p x) k ≡ true)
  points G q x h r e =
      let t = some_next G x d h r in
      let k = q.some x t.0 t.2 in
      (k.0, rw e k.1)

  arriving_points : (x : ℕ) → x ≢ d → Arriving x → (k : ℕ) × (bit (p x) k ≡ true)
  arriving_points x h (inl r) =
      let r' : distance n lo x d < unreached = omega (arith, lower_distance s.change x d) in
      ⊎_elim
      (points s.change.lo_graph s.sets.in_lo x h r')
      (points s.change.hi_graph s.sets.in_hi x h r)
      (s.either x)
  arriving_points x h (inr t) = points s.change.lo_graph s.sets.in_lo x h t.1 (t.0 [] tt)

  -- ---- a walk on from x, to d or of h links
  record On (h x : ℕ) : Type 0 where
    rest : List ℕ
    along : Along p x rest
    ends : (last x rest ≡ d) ⊎ (length rest ≡ h)

  on : (h x : ℕ) → Arriving x → On h x
  on zero x t = record { rest = []; along = tt; ends = inr refl }
  on (suc h) x t = go (ℕ_discrete x d) (λ k b. on h k (arriving_on x k t b))
    where
      longer :
          (k : ℕ) (m : List ℕ)
          → (last k m ≡ d) ⊎ (length m ≡ h)
          → (last k m ≡ d) ⊎ (suc (length m) ≡ suc h)
      longer k m (inl e) = inl e
      longer k m (inr e) = inr (omega arith)

      go : Dec (x ≡ d) → ((k : ℕ) → bit (p x) k ≡ true → On h k) → On (suc h) x
      go (yes e) f = record { rest = []; along = tt; ends = inl e }
      go (no q) f =
          let k = arriving_points x q t in
          let o = f k.0 k.1 in
          record { rest = k.0 ∷ o.rest; along = (k.1, o.along); ends = longer k.0 o.rest o.ends }

  -- no walk has n links
  on_ends : (x : ℕ) → x < n → (o : On n x) → last x o.rest ≡ d
  on_ends x h o = ⊎_elim (λ e. e) (λ e. absurd (omega (arith, walk_short x o.rest h o.along))) o.ends

  pub arrival :
      d < n
      → (x : ℕ) (l : List ℕ)
      → distance n hi x d < unreached
      → Along p x l
      → Prolonged p (n - 1) d x l
  arrival h x l r a =
      let t = arriving_along x l (inl r) a in
      let o = on n (last x l) t in
      let b = along_join p x l o.rest a o.along in
      record {
        rest = o.rest;
        along = b;
        ends = last_join x l o.rest ∙ on_ends (last x l) (arriving_in (last x l) h t) o;
        short = walk_short x (l ++ o.rest) (arriving_in x h (inl r)) b;
      }
