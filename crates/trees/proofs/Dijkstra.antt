-- Why the search from a destination d is right. D and H are the distances to d and the next hops to it found so far, g
-- is the topology, and σ the set of the routers that are settled.
--
-- Before each turn (`Front`) the destination is at 0, and the distance of a reached router is the sum of a walk from it
-- of at most as many links as routers are settled, which keeps it far from overflow. No link to a settled router makes
-- a distance less. A settled router is no farther than one that is not. And k is a next hop of i exactly where k is
-- settled and the distance of i is met over the link to k (`By`).
--
-- A turn settles a set β of routers that are all nearest. Nothing is offered to a settled router, and nothing could
-- help it: it is no farther than those of β, and a metric is at least 1. What was said of the links to settled routers
-- stays true, and then it is true of the links to β.
--
-- At the end every reached router is settled, so no link at all makes a distance less (`relaxed`): the distance of i is
-- at most the sum of any walk from it (`no_less`), and is one itself. A next hop is nearer than i, so it is reached and
-- settled: next hops need no more argument.
--     begin                `Front` holds of the destination alone
--     step                 a turn keeps it
--     distances, nexts     when no reached router is left, D are the distances and H the next-hop sets
use Prim.Native.Nat.{ℕ, suc, ◌+◌, ◌*◌, ◌^◌, ◌<◌, ◌≤◌}
use mathlib.Core.Path.{◌≡◌, sym, ap, ◌∙◌, subst}
use mathlib.Core.Bool.{true, false, false≢true}
use mathlib.Core.Logic.{◌≢◌, ◌↔◌, ◌⊎◌, inl, inr, ⊎_elim}
use native.Mathlib.Decide.{dec_lt, ℕ_discrete}
use native.Mathlib.Omega.{arith}
use Rattle.area.specs.Limits.{width, unused, unreached}
use Rattle.area.proofs.TestLaws.{look, or_cases, or_left, or_right, or_false, same_test}
use Rattle.sets.specs.Sets.{bit, added, union}
use Rattle.sets.proofs.SetLaws.{bit_zero, bit_union, added_cases}
use Rattle.sets.specs.Counts.{size}
use Rattle.sets.proofs.CountLaws.{size_added, size_le, size_most}
use Rattle.topology.specs.Walk.{Walk, stay, link, sum}
use Rattle.topology.specs.Distance.{distance}
use Rattle.topology.specs.NextHops.{is_next, next_hops, Next}
use Rattle.topology.proofs.SumLaws.{Within}
use Rattle.topology.specs.Graph.{Graph}
use Rattle.topology.proofs.DistanceLaws.{sum_bound, distance_le, distance_walk, distance_top}
use Rattle.topology.proofs.NextHopLaws.{next_true, true_next, same_next_hops, next_nearer}
use Rattle.trees.specs.Turns.{Best}

-- ---- the invariant
-- over the link to the settled router k the distance of i is met
pub record By (g : ℕ → ℕ → ℕ) (σ : ℕ) (D : ℕ → ℕ) (i k : ℕ) : Type 0 where
  pub settled : bit σ k ≡ true
  pub used : g i k < unused
  pub exact : D k + g i k ≡ D i

-- what holds before each turn
pub record Front (n : ℕ) (g : ℕ → ℕ → ℕ) (d : ℕ) (D H : ℕ → ℕ) (σ : ℕ) : Type 0 where
  pub start : D d ≡ 0
  pub sound : (i : ℕ) → i < n → (D i ≡ unreached) ⊎ Within g (size width σ) i d (D i)
  pub tight : (i k : ℕ) → g i k < unused → bit σ k ≡ true → D i ≤ D k + g i k
  pub order : (i j : ℕ) → i < n → j < n → bit σ i ≡ true → bit σ j ≡ false → D i ≤ D j
  pub hops : (i k : ℕ) → i < width → k < width → (bit (H i) k ≡ true) ↔ By g σ D i k
  pub rest : (i : ℕ) → n ≤ i → i < width → D i ≡ unreached

never : {A : Type 0} (k : ℕ) → bit 0 k ≡ true → A
never k e = absurd (false≢true (sym (bit_zero k) ∙ e))

module _ {n : ℕ} {g : ℕ → ℕ → ℕ} {d : ℕ} where
  pub begin :
      (D H : ℕ → ℕ)
      → d < n
      → D d ≡ 0
      → ((j : ℕ) → j < width → j ≢ d → D j ≡ unreached)
      → ((j : ℕ) → j < width → H j ≡ 0)
      → n ≤ width
      → Front n g d D H 0
  begin D H inside here there none most = record {
    start = here;
    sound = λ i l. elim (ℕ_discrete d i) [
      | yes e ↦
          subst (λ (j : ℕ). (D j ≡ unreached) ⊎ Within g (size width 0) j d (D j)) e
          (inr (stay, omega arith, sym here))
      | no f ↦ inl (there i (omega arith) (λ e. f (sym e)))
    ];
    tight = λ i k u b. never k b;
    order = λ i j l h b f. never i b;
    hops = λ i k l h. ((λ b. never k (rw (none i l) at b)), (λ y. never k y.settled));
    rest = λ j b h. there j h (λ e. let x : ⊥ = omega arith in x);
  }

  reached : {D H : ℕ → ℕ} {σ : ℕ} → Front n g d D H σ → (j : ℕ) → j < n → D j < unreached
      → Within g (size width σ) j d (D j)
  reached f j l r = ⊎_elim (λ e. absurd (let x : ⊥ = omega arith in x)) (λ w. w) (f.sound j l)

  pub bound : {D H : ℕ → ℕ} {σ : ℕ} → Front n g d D H σ → (j : ℕ) → j < n → D j < unreached → D j ≤ width * 16777214
  bound {D} {H} {σ} f j l r =
      let w = reached f j l r in
      omega (arith, w.1, w.2, sum_bound w.0, size_most width σ)

-- q offers its way to i: it is settled in this turn, i has a link to it, and is not settled then
abbrev pub Offering : (g : ℕ → ℕ → ℕ) (β σ' i q : ℕ) → Type 0
Offering g β σ' i q = (bit β q ≡ true) × (g i q < unused) × (bit σ' i ≡ false)

-- the routers of β are settled in a turn: they are reached and not settled, and no such router is nearer
pub record Next-to (n : ℕ) (D : ℕ → ℕ) (σ β : ℕ) : Type 0 where
  pub within : (q : ℕ) → bit β q ≡ true → q < n
  pub fresh : (q : ℕ) → bit β q ≡ true → bit σ q ≡ false
  pub reach : (q : ℕ) → bit β q ≡ true → D q < unreached
  pub near : (q j : ℕ) → bit β q ≡ true → j < n → bit σ j ≡ false → D q ≤ D j

-- one router more is settled, at least
pub grows : (n : ℕ) (D : ℕ → ℕ) (σ β : ℕ) → n ≤ width → Next-to n D σ β → (q : ℕ) → bit β q ≡ true
    → suc (size width σ) ≤ size width (union width σ β)
grows n D σ β most t q b =
    let l = t.within q b in
    let one = size_added width σ q (omega arith) (t.fresh q b) in
    let all = size_le width (added width σ q) (union width σ β) part in
    omega (arith, one, all)
  where
    part : (k : ℕ) → k < width → bit (added width σ q) k ≡ true → bit (union width σ β) k ≡ true
    part k l e =
        bit_union width σ β k l
        ∙ ⊎_elim
        (λ s. or_left (bit σ k) (bit β k) s)
        (λ (s : k ≡ q). or_right (bit σ k) (bit β k) (ap (bit β) s ∙ b))
        (added_cases width σ q k e)

module _
    {n : ℕ} {g : ℕ → ℕ → ℕ} (G : Graph n g) (most : n ≤ width) {d : ℕ} {D H : ℕ → ℕ} {σ : ℕ}
    (f : Front n g d D H σ) {β : ℕ} (t : Next-to n D σ β) {D' H' : ℕ → ℕ}
    (turn : (i : ℕ) → i < width
    → Best (Offering g β (union width σ β) i) (λ q. D q + g i q) (D i) (H i) (D' i) (H' i)) where
  abbrev σ' : ℕ
  σ' = union width σ β

  -- ---- who is settled
  was : (i : ℕ) → i < width → bit σ' i ≡ true → (bit σ i ≡ true) ⊎ (bit β i ≡ true)
  was i l b = or_cases (bit σ i) (bit β i) (sym (bit_union width σ β i l) ∙ b)

  was_not : (i : ℕ) → i < width → bit σ' i ≡ false → bit σ i ≡ false
  was_not i l b = (or_false (bit σ i) (bit β i) (sym (bit_union width σ β i l) ∙ b)).0

  stays : (i : ℕ) → i < width → bit σ i ≡ true → bit σ' i ≡ true
  stays i l b = bit_union width σ β i l ∙ or_left (bit σ i) (bit β i) b

  joins : (i : ℕ) → i < width → bit β i ≡ true → bit σ' i ≡ true
  joins i l b = bit_union width σ β i l ∙ or_right (bit σ i) (bit β i) b

  -- a settled router is no farther than one that is settled in this turn
  no_farther : (i q : ℕ) → i < n → bit σ' i ≡ true → bit β q ≡ true → D i ≤ D q
  no_farther i q l b c =
      ⊎_elim
      (λ s. f.order i q l (t.within q c) s (t.fresh q c))
      (λ s. t.near i q s (t.within q c) (t.fresh q c))
      (was i (omega arith) b)

  -- and gets no offer
  kept : (i : ℕ) → i < width → bit σ' i ≡ true → D' i ≡ D i
  kept i l b = ⊎_elim (λ e. e) (λ o. absurd (false≢true (sym o.1.2 ∙ b))) (turn i l).came

  -- ---- what holds again
  sound' : (i : ℕ) → i < n → (D' i ≡ unreached) ⊎ Within g (size width σ') i d (D' i)
  sound' i l = ⊎_elim same offered (turn i (omega arith)).came
    where
      more : size width σ ≤ size width σ'
      more = size_le width σ σ' (λ k h b. stays k h b)

      same : D' i ≡ D i → (D' i ≡ unreached) ⊎ Within g (size width σ') i d (D' i)
      same e =
          ⊎_elim (λ none. inl (e ∙ none)) (λ w. inr (w.0, omega (arith, w.1, more), w.2 ∙ sym e)) (f.sound i l)

      offered :
          (q : ℕ) × Offering g β σ' i q × (D' i ≡ D q + g i q)
          → (D' i ≡ unreached) ⊎ Within g (size width σ') i d (D' i)
      offered o =
          let q = o.0 in
          let b = o.1.0 in
          let w = reached f q (t.within q b) (t.reach q b) in
          let one = grows n D σ β most t q b in
          inr (link o.1.1 w.0, omega (arith, w.1, one), omega (arith, w.2, o.2))

  tight' : (i k : ℕ) → g i k < unused → bit σ' k ≡ true → D' i ≤ D' k + g i k
  tight' i k u b =
      let l = G.inside i k u in
      let same = kept k (omega (arith, l.1)) b in
      let best = turn i (omega (arith, l.0)) in
      ⊎_elim
      (λ old. omega (arith, f.tight i k u old, best.low))
      (λ new. by_settled (look (bit σ' i)) new)
      (was k (omega (arith, l.1)) b)
    where
      by_settled : (bit σ' i ≡ true) ⊎ (bit σ' i ≡ false) → bit β k ≡ true → D' i ≤ D' k + g i k
      by_settled (inl s) new =
          let l = G.inside i k u in
          let same = kept k (omega (arith, l.1)) b in
          omega (arith, no_farther i k l.0 s new, kept i (omega (arith, l.0)) s)
      by_settled (inr s) new =
          let l = G.inside i k u in
          let same = kept k (omega (arith, l.1)) b in
          omega (arith, (turn i (omega (arith, l.0))).met k (new, u, s))

  order' : (i j : ℕ) → i < n → j < n → bit σ' i ≡ true → bit σ' j ≡ false → D' i ≤ D' j
  order' i j l h b u =
      let same = kept i (omega arith) b in
      let free = was_not j (omega arith) u in
      ⊎_elim
      (λ e. ⊎_elim
      (λ old. omega (arith, f.order i j l h old free))
      (λ new. omega (arith, t.near i j new h free))
      (was i (omega arith) b))
      (λ o. omega (arith, o.2, no_farther i o.0 l b o.1.0))
      (turn j (omega arith)).came

  -- ---- next hops: those found before, and those of β
  by_old : (i k : ℕ) → D' i ≡ D i → By g σ D i k → By g σ' D' i k
  by_old i k e y =
      let l = (G.inside i k y.used).1 in
      let b = stays k (omega arith) y.settled in
      record { settled = b; used = y.used; exact = omega (arith, y.exact, kept k (omega arith) b) }

  by_new : (i k : ℕ) → Offering g β σ' i k → D' i ≡ D k + g i k → By g σ' D' i k
  by_new i k o e =
      let l = t.within k o.0 in
      let b = joins k (omega arith) o.0 in
      record { settled = b; used = o.1; exact = omega (arith, kept k (omega arith) b) }

  shown : (i k : ℕ) → i < width → k < width → bit (H' i) k ≡ true → By g σ' D' i k
  shown i k l h b =
      ⊎_elim
      (λ o. by_old i k o.1 ((f.hops i k l h).0 o.0))
      (λ o. by_new i k o.0 o.1)
      (((turn i l).hops k h).0 b)

  held : (i k : ℕ) → i < width → k < width → By g σ' D' i k → bit (H' i) k ≡ true
  held i k l h y = ((turn i l).hops k h).1 (⊎_elim old (λ b. new b (look (bit σ' i))) (was k h y.settled))
    where
      ends : (i < n) × (k < n)
      ends = G.inside i k y.used

      old : bit σ k ≡ true
          → ((bit (H i) k ≡ true) × (D' i ≡ D i)) ⊎ (Offering g β σ' i k × (D' i ≡ D k + g i k))
      old b =
          let same = kept k h y.settled in
          let e : D' i ≡ D i = omega (arith, y.exact, f.tight i k y.used b, (turn i l).low) in
          let was : By g σ D i k = record {
            settled = b;
            used = y.used;
            exact = omega (arith, y.exact, kept k h y.settled);
          } in
          inl ((f.hops i k l h).1 was, e)

      new : bit β k ≡ true
          → (bit σ' i ≡ true) ⊎ (bit σ' i ≡ false)
          → ((bit (H i) k ≡ true) × (D' i ≡ D i)) ⊎ (Offering g β σ' i k × (D' i ≡ D k + g i k))
      new b (inl s) =
          let one = G.positive i k y.used in
          let low = no_farther i k ends.0 s b in
          absurd (let z : ⊥ = omega (arith, y.exact, kept k h y.settled, kept i l s) in z)
      new b (inr s) = inr ((b, y.used, s), omega (arith, y.exact, kept k h y.settled))

  rest' : (i : ℕ) → n ≤ i → i < width → D' i ≡ unreached
  rest' i b l =
      ⊎_elim
      (λ e. e ∙ f.rest i b l)
      (λ o. absurd (let z : ⊥ = omega (arith, (G.inside i o.0 o.1.1).0) in z))
      (turn i l).came

  pub step : d < n → Front n g d D' H' σ'
  step inside = record {
    start = omega (arith, f.start, (turn d (omega arith)).low);
    sound = sound';
    tight = tight';
    order = order';
    hops = λ i k l h. (shown i k l h, held i k l h);
    rest = rest';
  }

-- ---- the end: no reached router is left that is not settled
module _
    {n : ℕ} {g : ℕ → ℕ → ℕ} (G : Graph n g) (most : n ≤ width) {d : ℕ} {D H : ℕ → ℕ} {σ : ℕ}
    (f : Front n g d D H σ) (end : (j : ℕ) → j < n → bit σ j ≡ false → D j < unreached → ⊥) where
  all_settled : (j : ℕ) → j < n → D j < unreached → bit σ j ≡ true
  all_settled j l r = ⊎_elim (λ t. t) (λ b. absurd (end j l b r)) (look (bit σ j))

  top : (j : ℕ) → j < n → D j ≤ unreached
  top j l =
      ⊎_elim
      (λ e. omega arith)
      (λ w. omega (arith, w.1, w.2, sum_bound w.0, size_most width σ))
      (f.sound j l)

  relaxed : (i k : ℕ) → g i k < unused → D i ≤ D k + g i k
  relaxed i k u =
      let l = G.inside i k u in
      elim (dec_lt (D k) unreached) [
        | yes r ↦ f.tight i k u (all_settled k l.1 r)
        | no h ↦ omega (arith, top i l.0)
      ]

  no_less : {i j : ℕ} (w : Walk g i j) → D i ≤ sum w + D j
  no_less stay = omega arith
  no_less (link {i} {k} u w) = omega (arith, no_less w, relaxed i k u)

  pub distances : (i : ℕ) → i < n → D i ≡ distance n g i d
  distances i l = omega (arith, le, ge)
    where
      le : D i ≤ distance n g i d
      le = elim (dec_lt (distance n g i d) unreached) [
        | yes h ↦ let w = distance_walk n g i d h in omega (arith, w.2, no_less w.0, f.start)
        | no h ↦ omega (arith, top i l)
      ]

      ge : distance n g i d ≤ D i
      ge =
          ⊎_elim
          (λ e. omega (arith, distance_top n g i d))
          (λ w. omega (arith, w.2, distance_le G w.0))
          (f.sound i l)

  -- the sets hold the next hops
  right : (i k : ℕ) → i < n → k < width → (bit (H i) k ≡ true) ↔ Next n g i d k
  right i k l h = (to, back)
    where
      to : bit (H i) k ≡ true → Next n g i d k
      to b =
          let y = (f.hops i k (omega arith) h).0 b in
          let dk = distances k (G.inside i k y.used).1 in
          record { uses = y.used; exact = omega (arith, y.exact, distances i l, dk) }

      back : Next n g i d k → bit (H i) k ≡ true
      back x =
          let lk = (G.inside i k x.uses).1 in
          let di = distances i l in
          let dk = distances k lk in
          let nearer = next_nearer G x in
          (f.hops i k (omega arith) h).1 (record {
            settled = all_settled k lk (omega (arith, distance_top n g i d));
            used = x.uses;
            exact = omega (arith, x.exact);
          })

  pub nexts : (i : ℕ) → i < n → H i < 2 ^ width → H i ≡ next_hops width n g i d
  nexts i l fits =
      same_next_hops width n g i d (H i) fits
      (λ k h. same_test (bit (H i) k) (is_next n g i d k)
      (λ b. true_next ((right i k l h).0 b))
      (λ b. (right i k l h).1 (next_true n g i d k b)))
