-- Which routers a change concerns: those from which, in lo, the way through the root is a shortest one to the
-- destination (`Through`). From any other router no shortest walk meets the root, so none uses a link that changes: it
-- has the same sum in hi, and as no walk is shorter in hi than in lo, it stays a shortest one.
--     toward_root      a next hop that the change concerns is a next hop to the root too, and then the change concerns
--                      the router that has it
--     lower_distance   no distance is smaller in hi than in lo
--     same_next        a router that the change does not concern has the same next hops in lo and in hi
use Rattle.std.specs.Prelude.{ℕ, ◌+◌, ◌≤◌, ◌<◌, ◌≡◌, ◌↔◌}
use Rattle.std.proofs.Math.Decide.{dec_lt}
use Rattle.std.proofs.Common.{arith}
use Rattle.area.specs.Limits.{unused, unreached}
use Rattle.topology.specs.Topology.{Topology}
use Rattle.topology.specs.Walk.{Walk, stay, link, sum}
use Rattle.topology.specs.Distance.{distance}
use Rattle.topology.specs.NextHops.{Next}
use Rattle.topology.proofs.DistanceLaws.{distance_walk, distance_le, distance_top}
use Rattle.topology.proofs.DistanceLaws.{distance_self, distance_link, distance_through}
use Rattle.convergence.specs.Change.{Change}

-- From x to d the way through c is a shortest one. It may hold too where x does not reach d; then x has no next hops.
abbrev pub Through : (n : ℕ) (lo : Topology) (c d x : ℕ) → Type 0
Through n lo c d x = distance n lo x c + distance n lo c d ≡ distance n lo x d

module _ {n c : ℕ} {lo hi : Topology} (g : Change n c lo hi) where
  pub toward_root :
      {x d k : ℕ}
      → Next n lo x d k
      → Through n lo c d k
      → Through n lo c d x × Next n lo x c k
  toward_root {x} {d} {k} h t =
      let a = distance_link g.lo_graph x k c h.uses in
      let b = distance_through g.lo_graph x c d in
      (omega (arith, h.exact), record { uses = h.uses; exact = omega (arith, h.exact) })

  -- a walk in hi is one in lo, with no larger sum
  lower_walk : {i j : ℕ} (w : Walk hi i j) → (v : Walk lo i j) × (sum v ≤ sum w)
  lower_walk stay = (stay, omega arith)
  lower_walk (link {i} {k} u w) =
      let m = g.lower i k in
      let used : lo i k < unused = omega arith in
      let t = lower_walk w in
      (link used t.0, omega (arith, t.1))

  pub lower_distance : (x d : ℕ) → distance n lo x d ≤ distance n hi x d
  lower_distance x d = elim (dec_lt (distance n hi x d) unreached) [
    | yes h ↦
        let w = distance_walk n hi x d h in
        let v = lower_walk w.0 in
        omega (arith, w.2, v.1, distance_le g.lo_graph v.0)
    | no f ↦ omega (arith, distance_top n lo x d)
  ]

  -- a change concerns the root
  at_root : (x d : ℕ) → x ≡ c → Through n lo c d x
  at_root x d e = rw e (omega (arith, distance_self g.lo_graph c))

  -- ---- a router x that the change does not concern
  -- it does not concern its next hops either, and the links to them have the same metrics in hi
  off_next :
      {x d k : ℕ}
      → ¬ Through n lo c d x
      → Next n lo x d k
      → (¬ Through n lo c d k) × (hi x k ≡ lo x k)
  off_next {x} {d} {k} f h =
      let on : ¬ Through n lo c d k = λ t. f (toward_root h t).0 in
      (on, g.elsewhere x k (λ e. f (at_root x d e)) (λ e. on (at_root k d e)))

  -- so x can take the same shortest walks in hi
  off_walk :
      {x d : ℕ} (w : Walk lo x d)
      → sum w ≡ distance n lo x d
      → ¬ Through n lo c d x
      → distance n hi x d ≤ sum w
  off_walk (stay {i = x}) e f = omega (arith, distance_self g.hi_graph x)
  off_walk (link {i = x} {k} {j = d} u w) e f =
      let a = distance_le g.lo_graph w in
      let b = distance_link g.lo_graph x k d u in
      let h : Next n lo x d k = record { uses = u; exact = omega arith } in
      let o = off_next f h in
      let q = distance_link g.hi_graph x k d (omega (arith, o.1)) in
      omega (arith, o.1, off_walk w (omega arith) o.0)

  off_distance : (x d : ℕ) → ¬ Through n lo c d x → distance n hi x d ≡ distance n lo x d
  off_distance x d f = elim (dec_lt (distance n lo x d) unreached) [
    | yes h ↦
        let w = distance_walk n lo x d h in
        omega (arith, w.2, off_walk w.0 w.2 f, lower_distance x d)
    | no h ↦ omega (arith, distance_top n hi x d, lower_distance x d)
  ]

  pub same_next : (x d : ℕ) → ¬ Through n lo c d x → (k : ℕ) → Next n lo x d k ↔ Next n hi x d k
  same_next x d f k = (to_hi, to_lo)
    where
      to_hi : Next n lo x d k → Next n hi x d k
      to_hi h =
          let o = off_next f h in
          let a = off_distance x d f in
          let b = off_distance k d o.0 in
          record { uses = omega (arith, o.1, h.uses); exact = omega (arith, o.1, h.exact) }

      to_lo : Next n hi x d k → Next n lo x d k
      to_lo h =
          let m = g.lower x k in
          let a = off_distance x d f in
          let b = lower_distance k d in
          let u = distance_link g.lo_graph x k d (omega (arith, h.uses)) in
          record { uses = omega (arith, h.uses); exact = omega (arith, h.exact) }
