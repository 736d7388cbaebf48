-- No walk along the pointers meets a router twice. Suppose that one comes back to its start. If one of its routers
-- points by lo alone, all of them point to next hops in lo; otherwise all point to next hops in hi. So the distance to
-- the destination, in lo or in hi, falls at each link, and yet is the same in the end.
--     met                  a walk has met a router that points by lo alone, or is no farther from d in hi
--     not_back             so no walk comes back to its start
--     no_router_twice      and none meets a router twice
use Rattle.std.specs.Prelude.{ℕ, ◌≤◌, ◌≡◌, true, ◌≢◌, ◌⊎◌, List, [], ◌∷◌}
use Rattle.std.proofs.Common.{ap, subst, inl, inr, arith}
use Rattle.std.proofs.Math.Decide.{ℕ_discrete}
use Rattle.sets.specs.Sets.{bit}
use Rattle.topology.specs.Topology.{Topology}
use Rattle.topology.specs.Distance.{distance}
use Rattle.topology.proofs.NextHopLaws.{next_nearer}
use Rattle.convergence.specs.Pointers.{Pointers, Along, last, NoRouterTwice}
use Rattle.convergence.proofs.PointerLaws.{no_return}
use Rattle.convergence.proofs.Separation.{Moment, LoFrom, hi_next, separation, lo_on, lo_nearer}

module _ {n c d : ℕ} {lo hi : Topology} {at-lo at-hi p : Pointers} (s : Moment n c d lo hi at-lo at-hi p) where
  -- on from a router that points by lo alone
  lo_along :
      (x : ℕ) (l : List ℕ)
      → LoFrom at-lo p x
      → Along p x l
      → LoFrom at-lo p (last x l) × (distance n lo (last x l) d ≤ distance n lo x d)
  lo_along x [] f a = (f, omega arith)
  lo_along x (k ∷ l) f a =
      let t = lo_along k l (lo_on s x k f a.0) a.1 in
      (t.0, omega (arith, t.1, lo_nearer s x k f a.0))

  -- A walk from x to y has met a router that points by lo alone, or y is no farther from d than x in hi.
  abbrev Met : (x y : ℕ) → Type 0
  Met x y = LoFrom at-lo p y ⊎ (distance n hi y d ≤ distance n hi x d)

  met : (x : ℕ) (l : List ℕ) → Along p x l → Met x (last x l)
  met x [] a = inr (omega arith)
  met x (k ∷ l) a = go (ℕ_discrete (p x) (at-hi x)) (met k l a.1)
    where
      go : Dec (p x ≡ at-hi x) → Met k (last k l) → Met x (last k l)
      go (no f) t = inl (lo_along x (k ∷ l) (separation s x f) a).0
      go (yes e) (inl f) = inl f
      go (yes e) (inr h) = inr (omega (arith, next_nearer s.change.hi_graph (hi_next s x k e a.0)))

  not_back : (x k : ℕ) (l : List ℕ) → bit (p x) k ≡ true → Along p k l → last k l ≢ x
  not_back x k l b a e = go (ℕ_discrete (p x) (at-hi x)) (met k l a)
    where
      in_lo : LoFrom at-lo p x → ⊥
      in_lo f =
          let same = ap (λ (y : ℕ). distance n lo y d) e in
          omega (arith, lo_nearer s x k f b, (lo_along k l (lo_on s x k f b) a).1)

      go : Dec (p x ≡ at-hi x) → Met k (last k l) → ⊥
      go (no f) t = in_lo (separation s x f)
      go (yes h) (inl f) = in_lo (subst (LoFrom at-lo p) e f)
      go (yes h) (inr t) =
          let same = ap (λ (y : ℕ). distance n hi y d) e in
          omega (arith, next_nearer s.change.hi_graph (hi_next s x k h b))

  pub no_router_twice : NoRouterTwice p
  no_router_twice = no_return p not_back
