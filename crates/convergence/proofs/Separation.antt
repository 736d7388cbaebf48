-- The main step, for rises and falls alike. A router x points to the set p x; its sets toward d in lo and in hi are
-- at-lo x and at-hi x. It points by lo alone where it points to its set in lo and has another one in hi:
-- p x ≢ at-hi x. It points by hi alone where p x ≢ at-lo x.
-- Suppose that pointers lead from x to a router that points by hi alone. The change concerns that router
-- (`hi_through`). Back along the pointers, as long as they are lo's, each router has the one after it as a next hop to
-- the root too (`toward_root`), and so is barred. A barred router does not point by lo alone; so neither does x.
--     Moment           what is known of the pointers p while routers write in order
--     lo_next, hi_next
--                      pointers lead to next hops in lo or in hi
--     LoFrom           all routers that pointers lead to from x point to their sets in lo
--     separation       so it is where x points by lo alone
--     lo_on, lo_nearer
--                      and on from there the distance to the destination falls in lo
use Rattle.std.specs.Prelude.{ℕ, ◌+◌, ◌<◌, ◌≡◌, true, ◌≢◌, ◌⊎◌, List, [], ◌∷◌}
use Rattle.std.proofs.Common.{sym, ◌∙◌, inl, inr, ⊎_elim}
use Rattle.std.proofs.Math.Decide.{ℕ_discrete}
use Rattle.sets.specs.Sets.{bit}
use Rattle.topology.specs.Topology.{Topology}
use Rattle.topology.specs.Distance.{distance}
use Rattle.topology.specs.NextHops.{Next}
use Rattle.topology.proofs.NextHopLaws.{next_nearer}
use Rattle.convergence.specs.Pointers.{Pointers, Along, last}
use Rattle.convergence.specs.Change.{Change, Sets}
use Rattle.convergence.proofs.ThroughRoot.{Through, toward_root, same_next}

-- Each router points to its set in lo or to its set in hi. A barred router does not point by lo alone. A router is
-- barred if one of its next hops to the root points by hi alone, or is barred. Which routers are barred is said in
-- ConvergenceLaws.antt: in a rise those that are done, in a fall those that are not done and have not written.
pub record Moment (n c d : ℕ) (lo hi : Topology) (at-lo at-hi p : Pointers) : Type 1 where
  pub change : Change n c lo hi
  pub sets : Sets n d lo hi at-lo at-hi
  pub either : (r : ℕ) → (p r ≡ at-lo r) ⊎ (p r ≡ at-hi r)
  pub barred : ℕ → Type 0
  pub barred_first : (x k : ℕ) → Next n lo x c k → p k ≢ at-lo k → barred x
  pub barred_on : (x k : ℕ) → Next n lo x c k → barred k → barred x
  pub barred_hi : (x : ℕ) → barred x → p x ≡ at-hi x

-- x, and every router that pointers lead to from x, points to its set in lo
abbrev pub LoFrom : (at-lo p : Pointers) (x : ℕ) → Type 0
LoFrom at-lo p x = (l : List ℕ) → Along p x l → p (last x l) ≡ at-lo (last x l)

module _ {n c d : ℕ} {lo hi : Topology} {at-lo at-hi p : Pointers} (s : Moment n c d lo hi at-lo at-hi p) where
  pub lo_next : (x k : ℕ) → p x ≡ at-lo x → bit (p x) k ≡ true → Next n lo x d k
  lo_next x k e b = s.sets.in_lo.next x k (rw e at b)

  pub hi_next : (x k : ℕ) → p x ≡ at-hi x → bit (p x) k ≡ true → Next n hi x d k
  hi_next x k e b = s.sets.in_hi.next x k (rw e at b)

  -- where a router points by hi alone, the way through the root is a shortest one: otherwise it would have the same
  -- next hops in both, and so one set
  hi_through : (x : ℕ) → p x ≢ at-lo x → Through n lo c d x
  hi_through x f = go (ℕ_discrete (distance n lo x c + distance n lo c d) (distance n lo x d))
    where
      go : Dec (Through n lo c d x) → Through n lo c d x
      go (yes t) = t
      go (no h) =
          let one_set = s.sets.same x (same_next s.change x d h) in
          absurd (⊎_elim f (λ e. f (e ∙ sym one_set)) (s.either x))

  -- A router from which pointers lead to one that points by hi alone does so itself, or is barred.
  abbrev Before : ℕ → Type 0
  Before x = (p x ≢ at-lo x) ⊎ (Through n lo c d x × s.barred x)

  -- one pointer back, from k to x: k is a next hop to the root too
  before_next : (x k : ℕ) → Next n lo x d k → Before k → Before x
  before_next x k h (inl f) =
      let t = toward_root s.change h (hi_through k f) in
      inr (t.0, s.barred_first x k t.1 f)
  before_next x k h (inr b) =
      let t = toward_root s.change h b.0 in
      inr (t.0, s.barred_on x k t.1 b.1)

  before : (x : ℕ) (l : List ℕ) → Along p x l → p (last x l) ≢ at-lo (last x l) → Before x
  before x [] a f = inl f
  before x (k ∷ l) a f = go (ℕ_discrete (p x) (at-lo x)) (before k l a.1 f)
    where
      go : Dec (p x ≡ at-lo x) → Before k → Before x
      go (yes e) b = before_next x k (lo_next x k e a.0) b
      go (no h) b = inl h

  pub separation : (x : ℕ) → p x ≢ at-hi x → LoFrom at-lo p x
  separation x f l a = go (ℕ_discrete (p (last x l)) (at-lo (last x l)))
    where
      not_before : Before x → ⊥
      not_before (inl h) = ⊎_elim h f (s.either x)
      not_before (inr b) = f (s.barred_hi x b.1)

      go : Dec (p (last x l) ≡ at-lo (last x l)) → p (last x l) ≡ at-lo (last x l)
      go (yes e) = e
      go (no h) = absurd (not_before (before x l a h))

  pub lo_on : (x k : ℕ) → LoFrom at-lo p x → bit (p x) k ≡ true → LoFrom at-lo p k
  lo_on x k f b l a = f (k ∷ l) (b, a)

  pub lo_nearer : (x k : ℕ) → LoFrom at-lo p x → bit (p x) k ≡ true → distance n lo k d < distance n lo x d
  lo_nearer x k f b = next_nearer s.change.lo_graph (lo_next x k (f [] tt) b)
