-- Laws of next hops. Metrics are positive, so a next hop is nearer to the destination: this gives all that is said of
-- who has one. A least walk starts with a link and ends with one, which gives next hops by either.
--     next_true, true_next, next_bit, bit_next, next_set
--                      the test, the fact and the set's bit say the same
--     same_next_hops   a set with these bits is the next-hop set
--     next_near        a router with a next hop reaches the destination
--     next_nearer      and so does the next hop, from nearer
--     some_next        a router that reaches another one has a next hop to it
--     no_next_self, no_next_unreached, no_next_beyond
--                      none to oneself, none to what is not reached, none from what is no router of the area
--     Over, over_next, next_over
--                      next hops by the last link: how a search hands them on from router to router
use Rattle.std.specs.Prelude.{ℕ, ◌+◌, ◌^◌, ◌≤◌, ◌<◌, ◌≡◌, refl, true, ◌≢◌, ltb, eqb}
use Rattle.std.proofs.Common.{sym, ◌∙◌, subst, arith, ltb-true, eqb-true, lt-ltb, eq-eqb}
use Rattle.std.proofs.lemmas.Bool.{false≢true}
use Rattle.std.proofs.Math.Logic.{⊎_elim}
use Rattle.std.proofs.Math.Decide.{dec_lt, ℕ_discrete}
use Rattle.area.specs.Limits.{unused, unreached}
use Rattle.area.proofs.TestLaws.{both_true, look}
use Rattle.sets.specs.Sets.{bit}
use Rattle.sets.proofs.SetLaws.{bit_set_of, bit_beyond, set_of_none, is_set_of}
use Rattle.topology.specs.Topology.{Topology}
use Rattle.topology.specs.Walk.{Walk, stay, link, sum}
use Rattle.topology.specs.Distance.{distance}
use Rattle.topology.specs.NextHops.{Next, is_next, next_hops}
use Rattle.topology.specs.Graph.{Graph}
use Rattle.topology.proofs.DistanceLaws.{distance_walk, distance_le, walk_near, distance_top, some_last}
use Rattle.topology.proofs.DistanceLaws.{distance_self, distance_link, distance_back}

pub next_true : (n : ℕ) (g : Topology) (i j k : ℕ) → is_next n g i j k ≡ true → Next n g i j k
unfolding is_next
next_true n g i j k e =
    let via = g i k + distance n g k j in
    let b = both_true (ltb (g i k) unused) (eqb via (distance n g i j)) e in
    record { uses = ltb-true (g i k) unused b.0; exact = eqb-true via (distance n g i j) b.1 }

pub true_next : {n : ℕ} {g : Topology} {i j k : ℕ} → Next n g i j k → is_next n g i j k ≡ true
unfolding is_next
true_next {n} {g} {i} {j} {k} x =
    rw (lt-ltb (g i k) unused x.uses) (eq-eqb (g i k + distance n g k j) (distance n g i j) x.exact)

pub next_bit :
    (w n : ℕ) (g : Topology) (i j k : ℕ)
    → k < w
    → bit (next_hops w n g i j) k ≡ is_next n g i j k
unfolding next_hops
next_bit w n g i j k h = bit_set_of w (is_next n g i j) k h

pub same_next_hops :
    (w n : ℕ) (g : Topology) (i j s : ℕ)
    → s < 2 ^ w
    → ((k : ℕ) → k < w → bit s k ≡ is_next n g i j k)
    → s ≡ next_hops w n g i j
unfolding next_hops
same_next_hops w n g i j s h f = is_set_of w s (is_next n g i j) h f

module _ {n : ℕ} {g : Topology} (G : Graph n g) where
  -- a router with a next hop towards j reaches j, and so does the next hop, from nearer
  pub next_near : {i j k : ℕ} → Next n g i j k → distance n g i j < unreached
  next_near {i} {j} {k} x =
      let a = distance_top n g i j in
      let w = distance_walk n g k j (omega (arith, G.positive i k x.uses, x.exact)) in
      walk_near G (link x.uses w.0)

  pub next_nearer : {i j k : ℕ} → Next n g i j k → distance n g k j < distance n g i j
  next_nearer {i} {j} {k} x = omega (arith, G.positive i k x.uses, x.exact)

  -- each router that reaches j, but for j itself, has a next hop
  first_link :
      {i j : ℕ}
      → i ≢ j
      → (w : Walk g i j)
      → sum w ≡ distance n g i j
      → (k : ℕ) × (k < n) × Next n g i j k
  first_link f stay e = absurd (f refl)
  first_link f (link {i} {k} {j} u w) e =
      let a = distance_le G w in
      let b = distance_link G i k j u in
      (k, (G.inside i k u).1, record { uses = u; exact = omega arith })

  pub some_next : (i j : ℕ) → i ≢ j → distance n g i j < unreached → (k : ℕ) × (k < n) × Next n g i j k
  some_next i j f h = let w = distance_walk n g i j h in first_link f w.0 w.2

  -- j itself has none, and none has a router that does not reach j, or one beyond the area
  none_next : (w i j : ℕ) → ((k : ℕ) → Next n g i j k → ⊥) → next_hops w n g i j ≡ 0
  unfolding next_hops
  none_next w i j f =
      set_of_none w (is_next n g i j)
      (λ k h. ⊎_elim (λ e. absurd (f k (next_true n g i j k e))) (λ e. e) (look (is_next n g i j k)))

  pub no_next_self : (w i : ℕ) → next_hops w n g i i ≡ 0
  no_next_self w i = none_next w i i (λ k x. omega (arith, next_nearer x, distance_self G i))

  pub no_next_unreached : (w i j : ℕ) → distance n g i j ≡ unreached → next_hops w n g i j ≡ 0
  no_next_unreached w i j e = none_next w i j (λ k x. omega (arith, next_near x))

  pub no_next_beyond : (w i j : ℕ) → n ≤ i → next_hops w n g i j ≡ 0
  no_next_beyond w i j h = none_next w i j (λ k x. omega (arith, (G.inside i k x.uses).0))

-- ---- the same of the set's bits
pub bit_next :
    (w n : ℕ) (g : Topology) (i j k : ℕ)
    → bit (next_hops w n g i j) k ≡ true
    → Next n g i j k
unfolding next_hops
bit_next w n g i j k e = elim (dec_lt k w) [
  | yes h ↦ next_true n g i j k (sym (bit_set_of w (is_next n g i j) k h) ∙ e)
  | no f ↦ absurd (false≢true (sym (bit_beyond w (is_next n g i j) k (omega arith)) ∙ e))
]

pub next_set :
    (w : ℕ) {n : ℕ} {g : Topology} {i j k : ℕ}
    → k < w
    → Next n g i j k
    → bit (next_hops w n g i j) k ≡ true
next_set w {n} {g} {i} {j} {k} h x = next_bit w n g i j k h ∙ true_next x

-- ---- by the last link
-- The next hops of r towards j are those towards the routers p before j on a least walk, and j itself where the link to
-- it is one.
pub data Over (n : ℕ) (g : Topology) (r j k : ℕ) : Type 0 where
  direct : k ≡ j → g r j < unused → g r j ≡ distance n g r j → Over n g r j k
  over :
      (p : ℕ)
      → g p j < unused
      → distance n g r p + g p j ≡ distance n g r j
      → Next n g r p k
      → Over n g r j k

module _ {n : ℕ} {g : Topology} (G : Graph n g) where
  pub over_next : {r j k : ℕ} → Over n g r j k → Next n g r j k
  over_next {r} {j} {k} (direct e u q) =
      subst (Next n g r j) (sym e) (record { uses = u; exact = omega (arith, distance_self G j) })
  over_next {r} {j} {k} (over p u q x) =
      let a = distance_link G r k j x.uses in
      let b = distance_back G k p j u in
      record { uses = x.uses; exact = omega (arith, x.exact) }

  pub next_over : {r j k : ℕ} → Next n g r j k → Over n g r j k
  next_over {r} {j} {k} x = elim (ℕ_discrete k j) [
    | yes e ↦
        let y = subst (Next n g r j) e x in
        direct e y.uses (omega (arith, y.exact, distance_self G j))
    | no f ↦
        let t = some_last G k j f (omega (arith, next_nearer G x, distance_top n g r j)) in
        let p = t.0 in
        let a = distance_link G r k p x.uses in
        let b = distance_back G r p j t.1 in
        over p t.1 (omega (arith, t.2)) (record { uses = x.uses; exact = omega (arith, t.2) })
  ]
