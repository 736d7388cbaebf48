-- Why the search is right. D and H are the distances and the next hops found so far from the source s, g is the
-- topology, and σ the set of the routers that are settled.
--
-- Before each turn (`Front`) the source is at 0, and the distance of a reached router is the sum of a walk of at most
-- as many links as routers are settled, which keeps it far from overflow. No link from a settled router makes a
-- distance less. A settled router is no farther than one that is not. And the next hops of j are those that the settled
-- routers hand on over whose link the distance of j is met (`By`).
--
-- A turn settles q, the nearest router that is not settled. A settled router is no farther than q and a metric is at
-- least 1, so the offers of q leave it as it is (`kept`); what was said of the links from it stays true, and then it is
-- true of the links from q.
--
-- At the end every reached router is settled, so no link at all makes a distance less (`relaxed`): the distance of j is
-- at most the sum of any walk to it (`no_less`), and is one itself. Next hops follow by induction on the distance of j
-- (`go`): k is one if it is j at the end of a link from s, or a next hop to the last router before j.
--     begin                `Front` holds of the source alone
--     step                 a turn keeps it
--     distances, nexts     when no reached router is left, D are the distances and H the next-hop sets
use Prim.Native.Nat.{ℕ, zero, suc, ◌+◌, ◌-◌, ◌*◌, ◌^◌, ◌<◌, ◌≤◌}
use mathlib.Core.Path.{◌≡◌, refl, sym, ap, ◌∙◌, subst}
use mathlib.Core.Bool.{Bool, true, false, ◌||◌, false≢true}
use mathlib.Core.Logic.{◌≢◌, ◌↔◌, ◌⊎◌, inl, inr, ⊎_elim}
use native.Mathlib.Decide.{dec_lt, ℕ_discrete}
use native.Mathlib.Nat.{not-suc-le-zero}
use native.Mathlib.Omega.{arith}
use borrow.Author.Tests.{eq-eqb, ne_eqb, eqb-true}
use lib.Dec.{eqb}
use Rattle.area.specs.Limits.{width, unused, unreached}
use Rattle.area.proofs.TestLaws.{look, or_cases, or_left, or_right, or_none, same_test}
use Rattle.sets.specs.Sets.{num, bit, added, union}
use Rattle.sets.proofs.SetLaws.{bit_zero, bit_added, bit_union}
use Rattle.topology.specs.Walk.{Walk, stay, link, sum}
use Rattle.topology.specs.Distance.{distance}
use Rattle.topology.specs.NextHops.{is_next, next_hops, Next}
use Rattle.topology.proofs.SumLaws.{Within}
use Rattle.topology.specs.Graph.{Graph}
use Rattle.topology.proofs.WalkLaws.{then, sum_then, links_then}
use Rattle.topology.proofs.DistanceLaws.{sum_bound, distance_le, distance_walk, distance_top, distance_self}
use Rattle.topology.proofs.NextHopLaws.{next_true, true_next, same_next_hops, next_near, next_nearer}
use Rattle.topology.proofs.NextHopLaws.{Over, direct, over, over_next, next_over}
use Rattle.search.specs.Offers.{first_hop, nearer, equal, farther}
use Rattle.search.specs.Search.{Relaxed, no_link, linked, Turn}

-- ---- how many routers below n are settled
abbrev pub count : (σ n : ℕ) → ℕ
count σ zero = 0
count σ (suc k) = count σ k + num (bit σ k)

num_top : (b : Bool) → num b ≤ 1
num_top true = omega arith
num_top false = omega arith

pub count_le : (σ n : ℕ) → count σ n ≤ n
count_le σ zero = omega arith
count_le σ (suc k) = omega (arith, count_le σ k, num_top (bit σ k))

-- one more, when q is added
module _ (σ q : ℕ) (room : q < width) where
  pub bit_new : bit (added width σ q) q ≡ true
  bit_new = bit_added width σ q q room ∙ or_right (bit σ q) (eqb q q) (eq-eqb q q refl)

  pub bit_old : (i : ℕ) → i < width → i ≢ q → bit (added width σ q) i ≡ bit σ i
  bit_old i l f = bit_added width σ q i l ∙ rw (ne_eqb i q f) (or_none (bit σ i))

  count_same : (n : ℕ) → n ≤ q → count (added width σ q) n ≡ count σ n
  count_same zero l = refl
  count_same (suc k) l =
      let old = bit_old k (omega arith) (λ e. let x : ⊥ = omega arith in x) in
      omega (arith, count_same k (omega arith), ap num old)

  pub count_more : (n : ℕ) → q < n → n ≤ width → bit σ q ≡ false → count (added width σ q) n ≡ count σ n + 1
  count_more zero l h e = absurd (not-suc-le-zero l)
  count_more (suc k) l h e = elim (dec_lt q k) [
    | yes b ↦
        let old = bit_old k (omega arith) (λ e. let x : ⊥ = omega arith in x) in
        omega (arith, count_more k b (omega arith) e, ap num old)
    | no f ↦
        let i : q ≡ k = omega arith in
        let new = subst (λ (x : ℕ). bit (added width σ q) x ≡ true) i bit_new in
        let old = subst (λ (x : ℕ). bit σ x ≡ false) i e in
        omega (arith, count_same k (omega arith), ap num new, ap num old)
  ]

-- ---- the invariant
-- by way of p the source s has the next hop k to j
abbrev pub First : (s : ℕ) (H : ℕ → ℕ) (p j k : ℕ) → Type 0
First s H p j k = ((p ≡ s) × (k ≡ j)) ⊎ ((p ≢ s) × (bit (H p) k ≡ true))

-- some settled router p, over whose link to j the distance of j is met, has it so
pub record By (g : ℕ → ℕ → ℕ) (s σ : ℕ) (D H : ℕ → ℕ) (j k : ℕ) : Type 0 where
  pub from : ℕ
  pub settled : bit σ from ≡ true
  pub used : g from j < unused
  pub exact : D from + g from j ≡ D j
  pub first : First s H from j k

-- what holds before each turn
pub record Front (n : ℕ) (g : ℕ → ℕ → ℕ) (s : ℕ) (D H : ℕ → ℕ) (σ : ℕ) : Type 0 where
  pub start : D s ≡ 0
  pub sound : (j : ℕ) → j < n → (D j ≡ unreached) ⊎ Within g (count σ n) s j (D j)
  pub tight : (i j : ℕ) → g i j < unused → bit σ i ≡ true → D j ≤ D i + g i j
  pub order : (i j : ℕ) → i < n → j < n → bit σ i ≡ true → bit σ j ≡ false → D i ≤ D j
  pub hops : (j k : ℕ) → j < n → k < width → (bit (H j) k ≡ true) ↔ By g s σ D H j k
  pub rest : (j : ℕ) → n ≤ j → j < width → (D j ≡ unreached) × (H j ≡ 0)

never : {A : Type 0} (k : ℕ) → bit 0 k ≡ true → A
never k e = absurd (false≢true (sym (bit_zero k) ∙ e))

module _ {n : ℕ} {g : ℕ → ℕ → ℕ} {s : ℕ} where
  pub begin :
      (D H : ℕ → ℕ)
      → s < n
      → n ≤ width
      → D s ≡ 0
      → ((j : ℕ) → j < width → j ≢ s → D j ≡ unreached)
      → ((j : ℕ) → j < width → H j ≡ 0)
      → Front n g s D H 0
  begin D H source most here there none = record {
    start = here;
    sound = λ j l. elim (ℕ_discrete s j) [
      | yes e ↦
          subst (λ (i : ℕ). (D i ≡ unreached) ⊎ Within g (count 0 n) s i (D i)) e
          (inr (stay, omega arith, sym here))
      | no f ↦ inl (there j (omega arith) (λ e. f (sym e)))
    ];
    tight = λ i j u b. never i b;
    order = λ i j l h b f. never i b;
    hops = λ j k l h. ((λ b. never k (rw (none j (omega arith)) at b)), (λ y. never y.from y.settled));
    rest = λ j b h. (there j h (λ e. let x : ⊥ = omega arith in x), none j h);
  }

  -- a reached router's distance is small
  pub small :
      {D H : ℕ → ℕ} {σ : ℕ}
      → Front n g s D H σ
      → (j : ℕ)
      → j < n
      → D j < unreached
      → Within g (count σ n) s j (D j)
  small f j l r = ⊎_elim (λ e. absurd (let x : ⊥ = omega arith in x)) (λ w. w) (f.sound j l)

  pub small_bound :
      {D H : ℕ → ℕ} {σ : ℕ}
      → Front n g s D H σ
      → (j : ℕ)
      → j < n
      → D j < unreached
      → D j ≤ n * (unused - 1)
  small_bound {D} {H} {σ} f j l r =
      let w = small f j l r in
      omega (arith, w.1, w.2, sum_bound w.0, count_le σ n)

-- ---- a turn: the nearest router q is settled, and the links from it are gone through
-- what it makes of one router's distance
module _ {base m by d h d' h' : ℕ} where
  no_farther : Relaxed base m by d h d' h' → d' ≤ d
  no_farther (no_link f e x) = omega arith
  no_farther (linked u (nearer l e x)) = omega arith
  no_farther (linked u (equal l e x)) = omega arith
  no_farther (linked u (farther l e x)) = omega arith

  met : m < unused → Relaxed base m by d h d' h' → d' ≤ base + m
  met u (no_link f e x) = absurd (f u)
  met u (linked v (nearer l e x)) = omega arith
  met u (linked v (equal l e x)) = omega arith
  met u (linked v (farther l e x)) = omega arith

  came : Relaxed base m by d h d' h' → (d' ≡ d) ⊎ ((m < unused) × (d' ≡ base + m))
  came (no_link f e x) = inl e
  came (linked u (nearer l e x)) = inr (u, e)
  came (linked u (equal l e x)) = inl e
  came (linked u (farther l e x)) = inl e

  -- a router that is no farther than q keeps what it has
  untouched : d ≤ base → (m < unused → 1 ≤ m) → Relaxed base m by d h d' h' → (d' ≡ d) × (h' ≡ h)
  untouched b p (no_link f e x) = (e, x)
  untouched b p (linked u (nearer l e x)) = absurd (let y = p u in let z : ⊥ = omega arith in z)
  untouched b p (linked u (equal l e x)) = absurd (let y = p u in let z : ⊥ = omega arith in z)
  untouched b p (linked u (farther l e x)) = (e, x)

module _
    {n : ℕ} {g : ℕ → ℕ → ℕ} (G : Graph n g) (most : n ≤ width)
    {s : ℕ} {D H : ℕ → ℕ} {σ : ℕ} (f : Front n g s D H σ)
    {q : ℕ} (within : q < n) (fresh : bit σ q ≡ false) (reach : D q < unreached)
    (near : (j : ℕ) → j < n → bit σ j ≡ false → D q ≤ D j)
    {D' H' : ℕ → ℕ} (turn : (j : ℕ) → j < width → Turn g s q D H D' H' j) where
  abbrev σ' : ℕ
  σ' = added width σ q

  -- a router that is settled now is q, or was settled before; one that is not settled now was not
  was : (i : ℕ) → i < n → bit σ' i ≡ true → (i ≡ q) ⊎ (bit σ i ≡ true)
  was i l b = elim (ℕ_discrete i q) [
    | yes e ↦ inl e
    | no h ↦ inr (sym (bit_old σ q (omega arith) i (omega arith) h) ∙ b)
  ]

  was_not : (i : ℕ) → i < n → bit σ' i ≡ false → bit σ i ≡ false
  was_not i l b = elim (ℕ_discrete i q) [
    | yes e ↦ absurd (false≢true (sym b ∙ subst (λ (x : ℕ). bit σ' x ≡ true) (sym e) (bit_new σ q (omega arith))))
    | no h ↦ sym (bit_old σ q (omega arith) i (omega arith) h) ∙ b
  ]

  stays : (i : ℕ) → i < n → bit σ i ≡ true → bit σ' i ≡ true
  stays i l b =
      let other : i ≢ q = λ e. false≢true (sym fresh ∙ subst (λ (x : ℕ). bit σ x ≡ true) e b) in
      bit_old σ q (omega arith) i (omega arith) other ∙ b

  -- it is no farther than q, and keeps what it has
  before_q : (i : ℕ) → i < n → bit σ' i ≡ true → D i ≤ D q
  before_q i l b = ⊎_elim (λ (e : i ≡ q). rw e (omega arith)) (λ old. f.order i q l within old fresh) (was i l b)

  kept : (i : ℕ) → i < n → bit σ' i ≡ true → (D' i ≡ D i) × (H' i ≡ H i)
  kept i l b = untouched (before_q i l b) (G.positive q i) (turn i (omega arith))

  kept_q : (D' q ≡ D q) × (H' q ≡ H q)
  kept_q = kept q within (bit_new σ q (omega arith))

  tight' : (i j : ℕ) → g i j < unused → bit σ' i ≡ true → D' j ≤ D' i + g i j
  tight' i j u b =
      let l = G.inside i j u in
      let e = (kept i l.0 b).0 in
      let t = turn j (omega arith) in
      let low = no_farther t in
      ⊎_elim
      (λ (x : i ≡ q).
      let y = met (subst (λ (p : ℕ). g p j < unused) x u) t in
      let z = ap D x in
      let v = ap (λ (p : ℕ). g p j) x in
      omega arith)
      (λ old. let x = f.tight i j u old in omega arith)
      (was i l.0 b)

  order' : (i j : ℕ) → i < n → j < n → bit σ' i ≡ true → bit σ' j ≡ false → D' i ≤ D' j
  order' i j l h b u =
      let e = (kept i l b).0 in
      let low = before_q i l b in
      let far = near j h (was_not j h u) in
      ⊎_elim (λ k. omega arith) (λ w. omega (arith, w.1)) (came (turn j (omega arith)))

  sound' : (j : ℕ) → j < n → (D' j ≡ unreached) ⊎ Within g (count σ' n) s j (D' j)
  sound' j l =
      let more = count_more σ q (omega arith) n within most fresh in
      ⊎_elim
      (λ e. ⊎_elim (λ none. inl (e ∙ none)) (λ w. inr (w.0, omega (arith, w.1), w.2 ∙ sym e)) (f.sound j l))
      (λ c.
      let w = small f q within reach in
      let last = link c.0 stay in
      let few = links_then w.0 last in
      let sums = sum_then w.0 last in
      inr (then w.0 last, omega (arith, w.1), omega (arith, w.2, c.1)))
      (came (turn j (omega arith)))

  -- ---- next hops
  -- the set that q hands on to router j
  abbrev handed : (j : ℕ) → ℕ
  handed j = first_hop s q (H q) j

  first_true : (j k : ℕ) → k < width → bit (handed j) k ≡ true → First s H q j k
  first_true j k l b = elim (ℕ_discrete q s) [
    | yes e ↦
        let own : bit (added width 0 j) k ≡ eqb k j = bit_added width 0 j k l ∙ rw (bit_zero k) refl in
        inl (e, eqb-true k j (sym own ∙ (rw (eq-eqb q s e) at b)))
    | no h ↦ inr (h, rw (ne_eqb q s h) at b)
  ]

  true_first : (j k : ℕ) → k < width → First s H q j k → bit (handed j) k ≡ true
  true_first j k l (inl w) = rw (eq-eqb q s w.0) (bit_added width 0 j k l ∙ rw (bit_zero k) (eq-eqb k j w.1))
  true_first j k l (inr w) = rw (ne_eqb q s w.0) w.1

  -- a way by a router that was settled before is one now, and the other way round, where the distance of j stays
  by_new : (j k : ℕ) → D' j ≡ D j → By g s σ D H j k → By g s σ' D' H' j k
  by_new j k e y =
      let p = y.from in
      let l = (G.inside p j y.used).0 in
      let b = stays p l y.settled in
      let o = kept p l b in
      record {
        from = p;
        settled = b;
        used = y.used;
        exact = omega (arith, y.exact, o.0);
        first = ⊎_elim inl (λ w. inr (w.0, rw o.1 w.1)) y.first;
      }

  by_old : (j k : ℕ) → D' j ≡ D j → (y : By g s σ' D' H' j k) → bit σ y.from ≡ true → By g s σ D H j k
  by_old j k e y b =
      let p = y.from in
      let o = kept p (G.inside p j y.used).0 y.settled in
      record {
        from = p;
        settled = b;
        used = y.used;
        exact = omega (arith, y.exact, o.0);
        first = ⊎_elim inl (λ w. inr (w.0, rw o.1 at w.1)) y.first;
      }

  -- the way by q
  by_q : (j k : ℕ) → g q j < unused → D' j ≡ D q + g q j → First s H q j k → By g s σ' D' H' j k
  by_q j k u e w = record {
    from = q;
    settled = bit_new σ q (omega arith);
    used = u;
    exact = omega (arith, kept_q.0);
    first = ⊎_elim inl (λ x. inr (x.0, rw kept_q.1 x.1)) w;
  }

  -- the way that is by q
  abbrev ByQ : (j k : ℕ) → Type 0
  ByQ j k = (g q j < unused) × (D q + g q j ≡ D' j) × First s H q j k

  q_first : (j k : ℕ) (y : By g s σ' D' H' j k) → y.from ≡ q → ByQ j k
  q_first j k y e = (
    subst (λ (p : ℕ). g p j < unused) e y.used,
    (let x = ap D' e in let v = ap (λ (p : ℕ). g p j) e in omega (arith, y.exact, kept_q.0)),
    ⊎_elim
        (λ w. inl (sym e ∙ w.0, w.1))
        (λ w. inr ((λ x. w.0 (e ∙ x)), subst (λ (h : ℕ). bit h k ≡ true) (ap H' e ∙ kept_q.1) w.1))
        y.first,
  )

  -- two sets that were joined
  joined : (j k : ℕ) → k < width → bit (union width (H j) (handed j)) k ≡ (bit (H j) k || bit (handed j) k)
  joined j k h = bit_union width (H j) (handed j) k h

  -- each next hop that router j has then is by some way
  shown :
      (j k : ℕ)
      → j < n
      → k < width
      → Turn g s q D H D' H' j
      → bit (H' j) k ≡ true
      → By g s σ' D' H' j k
  shown j k l h (no_link v e x) b = by_new j k e ((f.hops j k l h).0 (rw x at b))
  shown j k l h (linked u (nearer v e x)) b = by_q j k u e (first_true j k h (rw x at b))
  shown j k l h (linked u (equal v e x)) b =
      ⊎_elim
      (λ a. by_new j k e ((f.hops j k l h).0 a))
      (λ a. by_q j k u (e ∙ sym v) (first_true j k h a))
      (or_cases (bit (H j) k) (bit (handed j) k) (sym (joined j k h) ∙ (rw x at b)))
  shown j k l h (linked u (farther v e x)) b = by_new j k e ((f.hops j k l h).0 (rw x at b))

  -- the same read the other way, for a way by q and for one by a router that was settled before
  held_q : (j k : ℕ) → k < width → ByQ j k → Turn g s q D H D' H' j → bit (H' j) k ≡ true
  held_q j k h w (no_link v e x) = absurd (v w.0)
  held_q j k h w (linked u (nearer v e x)) = rw x (true_first j k h w.2)
  held_q j k h w (linked u (equal v e x)) =
      rw x (joined j k h ∙ or_right (bit (H j) k) (bit (handed j) k) (true_first j k h w.2))
  held_q j k h w (linked u (farther v e x)) = absurd (let y = w.1 in let z : ⊥ = omega arith in z)

  held_old :
      (j k : ℕ)
      → j < n
      → k < width
      → (y : By g s σ' D' H' j k)
      → bit σ y.from ≡ true
      → Turn g s q D H D' H' j
      → bit (H' j) k ≡ true
  held_old j k l h y b (no_link v e x) = rw x ((f.hops j k l h).1 (by_old j k e y b))
  held_old j k l h y b (linked u (nearer v e x)) =
      let o = (kept y.from (G.inside y.from j y.used).0 y.settled).0 in
      absurd (let z : ⊥ = omega (arith, f.tight y.from j y.used b, y.exact) in z)
  held_old j k l h y b (linked u (equal v e x)) =
      rw x (joined j k h ∙ or_left (bit (H j) k) (bit (handed j) k) ((f.hops j k l h).1 (by_old j k e y b)))
  held_old j k l h y b (linked u (farther v e x)) = rw x ((f.hops j k l h).1 (by_old j k e y b))

  held : (j k : ℕ) → j < n → k < width → By g s σ' D' H' j k → bit (H' j) k ≡ true
  held j k l h y =
      let t = turn j (omega arith) in
      ⊎_elim
      (λ e. held_q j k h (q_first j k y e) t)
      (λ b. held_old j k l h y b t)
      (was y.from (G.inside y.from j y.used).0 y.settled)

  rest' : (j : ℕ) → n ≤ j → j < width → (D' j ≡ unreached) × (H' j ≡ 0)
  rest' j b l = beyond (turn j l)
    where
      beyond : Turn g s q D H D' H' j → (D' j ≡ unreached) × (H' j ≡ 0)
      beyond (no_link v e x) = let r = f.rest j b l in (e ∙ r.0, x ∙ r.1)
      beyond (linked u o) = absurd (let y = (G.inside q j u).1 in let z : ⊥ = omega arith in z)

  pub step : s < n → Front n g s D' H' σ'
  step source = record {
    start = omega (arith, f.start, no_farther (turn s (omega arith)));
    sound = sound';
    tight = tight';
    order = order';
    hops = λ j k l h. (shown j k l h (turn j (omega arith)), held j k l h);
    rest = rest';
  }

-- ---- the end: no reached router is left that is not settled
module _
    {n : ℕ} {g : ℕ → ℕ → ℕ} (G : Graph n g) (most : n ≤ width) {s : ℕ} (source : s < n)
    {D H : ℕ → ℕ} {σ : ℕ} (f : Front n g s D H σ)
    (end : (j : ℕ) → j < n → bit σ j ≡ false → D j < unreached → ⊥) where
  all_settled : (j : ℕ) → j < n → D j < unreached → bit σ j ≡ true
  all_settled j l r = ⊎_elim (λ t. t) (λ b. absurd (end j l b r)) (look (bit σ j))

  top : (j : ℕ) → j < n → D j ≤ unreached
  top j l = elim (dec_lt (D j) unreached) [
    | yes r ↦ omega arith
    | no h ↦
        ⊎_elim (λ e. omega arith) (λ w. omega (arith, w.1, w.2, sum_bound w.0, count_le σ n)) (f.sound j l)
  ]

  relaxed : (i j : ℕ) → g i j < unused → D j ≤ D i + g i j
  relaxed i j u =
      let l = G.inside i j u in
      elim (dec_lt (D i) unreached) [
        | yes r ↦ f.tight i j u (all_settled i l.0 r)
        | no h ↦ omega (arith, top j l.1)
      ]

  no_less : {i j : ℕ} (w : Walk g i j) → D j ≤ D i + sum w
  no_less stay = omega arith
  no_less (link {i} {k} u w) = omega (arith, no_less w, relaxed i k u)

  pub distances : (j : ℕ) → j < n → D j ≡ distance n g s j
  distances j l = omega (arith, le, ge)
    where
      le : D j ≤ distance n g s j
      le = elim (dec_lt (distance n g s j) unreached) [
        | yes h ↦ let w = distance_walk n g s j h in omega (arith, w.2, no_less w.0, f.start)
        | no h ↦ omega (arith, top j l)
      ]

      ge : distance n g s j ≤ D j
      ge =
          ⊎_elim
          (λ e. omega (arith, distance_top n g s j))
          (λ w. omega (arith, w.2, distance_le G w.0))
          (f.sound j l)

  -- a next hop, by the links into j: by induction on the distance
  abbrev Right : ℕ → Type 0
  Right j = (k : ℕ) → k < width → (bit (H j) k ≡ true) ↔ Next n g s j k

  abbrev Before : ℕ → Type 0
  Before j = (p : ℕ) → p < n → D p < D j → Right p

  of_by : (j k : ℕ) → j < n → k < width → Before j → By g s σ D H j k → Next n g s j k
  of_by j k l h ih y =
      let p = y.from in
      let lp = (G.inside p j y.used).0 in
      let pos = G.positive p j y.used in
      let dp = distances p lp in
      let dj = distances j l in
      over_next G (⊎_elim
      (λ w.
      let e = ap D w.0 in
      let v = ap (λ (x : ℕ). g x j) w.0 in
      direct w.1 (subst (λ (x : ℕ). g x j < unused) w.0 y.used) (omega (arith, y.exact, f.start)))
      (λ w. over p y.used (omega (arith, y.exact)) ((ih p lp (omega (arith, y.exact)) k h).0 w.1))
      y.first)

  to_by : (j k : ℕ) → j < n → k < width → Before j → Next n g s j k → By g s σ D H j k
  to_by j k l h ih x = from_over (next_over G x)
    where
      near : D j < unreached
      near = omega (arith, distances j l, next_near G x)

      other : (p : ℕ) → Next n g s p k → p ≢ s
      other p y e =
          let z = next_nearer G (subst (λ (i : ℕ). Next n g s i k) e y) in
          let o = distance_self G s in
          omega arith

      from_over : Over n g s j k → By g s σ D H j k
      from_over (direct e u q) = record {
        from = s;
        settled = all_settled s source (omega (arith, f.start));
        used = u;
        exact = omega (arith, f.start, distances j l);
        first = inl (refl, e);
      }
      from_over (over p u q y) =
          let lp = (G.inside p j u).0 in
          let pos = G.positive p j u in
          let dp = distances p lp in
          let dj = distances j l in
          record {
            from = p;
            settled = all_settled p lp (omega (arith, near));
            used = u;
            exact = omega arith;
            first = inr (other p y, (ih p lp (omega arith) k h).1 y);
          }

  go : (fuel j : ℕ) → j < n → D j < fuel → Right j
  go zero j l b = absurd (not-suc-le-zero b)
  go (suc fuel) j l b =
      let ih : Before j = λ p lp c. go fuel p lp (omega arith) in
      λ k h. ((λ t. of_by j k l h ih ((f.hops j k l h).0 t)), (λ x. (f.hops j k l h).1 (to_by j k l h ih x)))

  pub nexts : (j : ℕ) → j < n → H j < 2 ^ width → H j ≡ next_hops width n g s j
  nexts j l b =
      same_next_hops width n g s j (H j) b
      (λ k h.
      let r = go (suc (D j)) j l (omega arith) k h in
      same_test (bit (H j) k) (is_next n g s j k) (λ t. true_next (r.0 t)) (λ t. r.1 (next_true n g s j k t)))
