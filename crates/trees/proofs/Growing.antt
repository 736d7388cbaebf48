-- The main loop over its column: the argument of Dijkstra.antt, with D and H read off the column.
--     Growing                    what the column holds is a front, and `reached` are the reached routers of it that are
--                                not settled
--     start                      the blank column with the destination at 0
--     links_are                  the neighbour sets say who has a link
--     next_are, room, inside     a turn: whom it settles; its sums fit; those it settles are settled then
--     fewer, more                one router more is settled at least, and the column holds a front again
--     distance_column, hop_column      when no reached router is left, the column is that of the definition
use Prim.Native.Nat.{ℕ, ◌+◌, ◌-◌, ◌^◌, ◌<◌, ◌≤◌}
use mathlib.Core.Path.{◌≡◌, refl, sym, ap, ◌∙◌}
use mathlib.Core.Bool.{true, false, not, false≢true}
use mathlib.Core.Logic.{◌≢◌, ◌↔◌, inl, ⊎_elim}
use mathlib.Core.List.{List}
use native.Mathlib.Decide.{dec_lt, ℕ_discrete}
use native.Mathlib.Omega.{arith}
use lib.ListN.{length, set}
use lib.Seq.{get_or-set_same, get_or-set_other}
use lib.Dec.{ltb}
use borrow.Author.Tests.{ltb-true, lt-ltb, not-true}
use Rattle.area.specs.Limits.{width, unused, unreached}
use Rattle.area.specs.Tables.{build, cell, per_router}
use Rattle.area.proofs.TableLaws.{is_build}
use Rattle.area.proofs.PerRouterLaws.{per_at}
use Rattle.area.specs.Tests.{lowest}
use Rattle.area.proofs.TestLaws.{both_true, and_true, or_cases, or_left, or_right, or_false}
use Rattle.area.proofs.LowestLaws.{lowest_passes, lowest_below}
use Rattle.sets.specs.Sets.{bit, added, union, without}
use Rattle.sets.proofs.SetLaws.{bit_zero, bit_lt, bit_set_of, set_of_lt, bit_union, bit_without}
use Rattle.sets.proofs.SetLaws.{added_self, added_cases, no_members, union_lt}
use Rattle.sets.specs.Counts.{size}
use Rattle.sets.proofs.CountLaws.{size_most}
use Rattle.topology.specs.Topology.{topology}
use Rattle.topology.specs.Cells.{distance_cell, hop_cell}
use Rattle.topology.proofs.TopologyLaws.{topology_graph, metric_link, link_metric}
use Rattle.topology.proofs.CellLaws.{distance_in, distance_out, hops_in, hops_out}
use Rattle.trees.specs.Turns.{entry, links_to, Nearest, Offers, Turned}
use Rattle.trees.proofs.Offering.{best_as}
use Rattle.trees.proofs.Dijkstra.{Front, Next-to, Offering, begin, bound, grows, step, distances, nexts}

-- reached and not settled
abbrev Waits : (n : ℕ) (dist : List ℕ) (σ j : ℕ) → Type 0
Waits n dist σ j = (bit σ j ≡ false) × (j < n) × (entry dist j < unreached)

pub record Growing (n : ℕ) (m : List ℕ) (d : ℕ) (dist hops : List ℕ) (σ reached : ℕ) : Type 0 where
  pub front : Front n (topology n m) d (entry dist) (entry hops) σ
  pub ahead : (j : ℕ) → (bit reached j ≡ true) ↔ Waits n dist σ j

module _ {n : ℕ} {m : List ℕ} (most : n ≤ width) {d : ℕ} (within : d < n) where
  pub start :
      (dist hops : List ℕ)
      → length dist ≡ width
      → ((j : ℕ) → j < width → entry dist j ≡ unreached)
      → ((j : ℕ) → j < width → entry hops j ≡ 0)
      → {reached : ℕ}
      → reached ≡ added width 0 d
      → Growing n m d (set dist d 0) hops 0 reached
  start dist hops ld far none {reached} is = record {
    front = begin (entry (set dist d 0)) (entry hops) within here others none most;
    ahead = λ j. (only j, itself j);
  }
    where
      here : entry (set dist d 0) d ≡ 0
      here = get_or-set_same dist d 0 0 (omega arith)

      others : (j : ℕ) → j < width → j ≢ d → entry (set dist d 0) j ≡ unreached
      others j l f = get_or-set_other dist d j 0 0 f ∙ far j l

      only : (j : ℕ) → bit reached j ≡ true → Waits n (set dist d 0) 0 j
      only j b =
          ⊎_elim
          (λ z. absurd (false≢true (sym (bit_zero j) ∙ z)))
          (λ (e : j ≡ d). rw e (bit_zero d, within, omega (arith, here)))
          (added_cases width 0 d j (ap (λ (x : ℕ). bit x j) (sym is) ∙ b))

      itself : (j : ℕ) → Waits n (set dist d 0) 0 j → bit reached j ≡ true
      itself j w = elim (ℕ_discrete j d) [
        | yes e ↦ ap (λ (x : ℕ). bit x j) is ∙ rw e (added_self width 0 d (omega arith))
        | no f ↦ absurd (let x : ⊥ = omega (arith, others j (omega (arith, w.1)) f, w.2) in x)
      ]

-- ---- the neighbour sets
module _ (n : ℕ) (m links : List ℕ) (most : n ≤ width) (is : links ≡ per_router width n (links_to n m)) where
  link_set : (q : ℕ) → q < n → entry links q ≡ links_to n m q
  link_set q l = ap (λ (x : List ℕ). entry x q) is ∙ per_at width n (links_to n m) q l most

  pub links_are : (i q : ℕ) → q < n → (bit (entry links q) i ≡ true) ↔ (topology n m i q < unused)
  links_are i q l = (used, linked)
    where
      used : bit (entry links q) i ≡ true → topology n m i q < unused
      used b =
          let t = ap (λ (x : ℕ). bit x i) (sym (link_set q l)) ∙ b in
          let a = bit_lt n (links_to n m q) i (set_of_lt n (λ k. ltb (topology n m k q) unused)) t in
          ltb-true (topology n m i q) unused (sym (bit_set_of n (λ k. ltb (topology n m k q) unused) i a) ∙ t)

      linked : topology n m i q < unused → bit (entry links q) i ≡ true
      linked u =
          ap (λ (x : ℕ). bit x i) (link_set q l)
          ∙ bit_set_of n (λ k. ltb (topology n m k q) unused) i (metric_link n m i q u).from
          ∙ lt-ltb (topology n m i q) unused u

  module _ {d : ℕ} (within : d < n) {dist hops : List ℕ} {σ reached : ℕ} (f : Growing n m d dist hops σ reached)
      {β : ℕ} (near : Nearest dist reached β) where
    -- ---- whom a turn settles
    waits : (q : ℕ) → bit β q ≡ true → Waits n dist σ q
    waits q b = (f.ahead q).0 (near.part q b)

    pub next_are : Next-to n (entry dist) σ β
    next_are = record {
      within = λ q b. (waits q b).1;
      fresh = λ q b. (waits q b).0;
      reach = λ q b. (waits q b).2;
      near = λ q j b l s. elim (dec_lt (entry dist j) unreached) [
        | yes r ↦ near.first q j b ((f.ahead j).1 (s, l, r))
        | no g ↦ omega (arith, (waits q b).2)
      ];
    }

    pub inside : {σ' : ℕ} → σ' ≡ union width σ β → (q : ℕ) → bit β q ≡ true → bit σ' q ≡ true
    inside e q b =
        let l = (waits q b).1 in
        ap (λ (x : ℕ). bit x q) e ∙ bit_union width σ β q (omega arith) ∙ or_right (bit σ q) (bit β q) b

    -- the link's metric is the table's
    metric : (i q : ℕ) → bit β q ≡ true → bit (entry links q) i ≡ true → topology n m i q ≡ cell width m i q
    metric i q b c = link_metric (metric_link n m i q ((links_are i q (waits q b).1).0 c))

    pub room : (σ' i q : ℕ) → Offers links β σ' i q → entry dist q + cell width m i q ≤ unreached
    room σ' i q o =
        let w = waits q o.0 in
        omega (arith, bound f.front q w.1 w.2, (links_are i q w.1).0 o.1, metric i q o.0 o.1)

    -- ---- one router more is settled
    some_member : β ≢ 0 → (q : ℕ) × (bit β q ≡ true)
    some_member g = elim (dec_lt (lowest width (bit β)) width) [
      | yes h ↦ (lowest width (bit β), lowest_passes (bit β) width h)
      | no h ↦ absurd (g (no_members β (λ k b.
          let l = (waits k b).1 in
          false≢true (sym (lowest_below (bit β) width k (omega arith)) ∙ b))))
    ]

    pub fewer : reached ≢ 0 → {σ' : ℕ} → σ' ≡ union width σ β → width - size width σ' < width - size width σ
    fewer g {σ'} e =
        let one = some_member (near.some g) in
        let more = grows n (entry dist) σ β most next_are one.0 one.1 in
        omega (arith, ap (size width) e, more, size_most width (union width σ β))

    -- ---- the column after a turn
    module _
        (dist' hops' : List ℕ) (offered : ℕ)
        (turn : Turned m links β (union width σ β) dist hops dist' hops')
        (found : (i : ℕ) → i < width → (bit offered i ≡ true) ↔ ((q : ℕ) × Offers links β (union width σ β) i q)) where
      front' : Front n (topology n m) d (entry dist') (entry hops') (union width σ β)
      front' =
          step (topology_graph n m most) most f.front next_are
          (λ i l.
          best_as (Offering (topology n m) β (union width σ β) i) (λ q. entry dist q + topology n m i q) (turn i l)
          (λ q o. (o.0, (links_are i q (waits q o.0).1).0 o.1, o.2))
          (λ q o. (o.0, (links_are i q (waits q o.0).1).1 o.1, o.2))
          (λ q o. ap (λ (x : ℕ). entry dist q + x) (sym (metric i q o.0 o.1))))
          within

      -- what was reached, but for those that are settled now, and what was offered a way
      shown : (j : ℕ) → bit (union width (without width reached β) offered) j ≡ true → Waits n dist' (union width σ β) j
      shown j b =
          let kept = without width reached β in
          ⊎_elim old new (or_cases (bit kept j) (bit offered j) (sym (bit_union width kept offered j l) ∙ b))
        where
          l : j < width
          l =
              let kept = without width reached β in
              bit_lt width (union width kept offered) j (union_lt width kept offered) b

          old : bit (without width reached β) j ≡ true → Waits n dist' (union width σ β) j
          old c =
              let t = both_true (bit reached j) (not (bit β j)) (sym (bit_without width reached β j l) ∙ c) in
              let w = (f.ahead j).0 t.0 in (
                bit_union width σ β j l ∙ rw (w.0, not-true (bit β j) t.1) refl,
                w.1,
                omega (arith, w.2, (turn j l).low),
              )

          new : bit offered j ≡ true → Waits n dist' (union width σ β) j
          new c =
              let o = (found j l).0 c in
              let q = o.0 in
              let w = waits q o.1.0 in
              let u = (links_are j q w.1).0 o.1.1 in
              let near = bound f.front q w.1 w.2 in (
                o.1.2,
                (metric_link n m j q u).from,
                omega (arith, (turn j l).met q o.1, metric j q o.1.0 o.1.1, u, near),
              )

      held : (j : ℕ) → Waits n dist' (union width σ β) j → bit (union width (without width reached β) offered) j ≡ true
      held j w =
          bit_union width (without width reached β) offered j l
          ∙ ⊎_elim
          (λ e. or_left (bit (without width reached β) j) (bit offered j) (kept e))
          (λ o. or_right (bit (without width reached β) j) (bit offered j) ((found j l).1 (o.0, o.1)))
          (turn j l).came
        where
          l : j < width
          l = omega (arith, w.1)

          free : (bit σ j ≡ false) × (bit β j ≡ false)
          free = or_false (bit σ j) (bit β j) (sym (bit_union width σ β j l) ∙ w.0)

          kept : entry dist' j ≡ entry dist j → bit (without width reached β) j ≡ true
          kept e =
              bit_without width reached β j l
              ∙ and_true (bit reached j) (not (bit β j))
              ((f.ahead j).1 (free.0, w.1, omega (arith, w.2, e))) (ap not free.1)

      pub more :
          {σ' reached' : ℕ}
          → σ' ≡ union width σ β
          → reached' ≡ union width (without width reached β) offered
          → Growing n m d dist' hops' σ' reached'
      more e r = rw (e, r) (record {
        front = front';
        ahead = λ j. (shown j, held j);
      })

-- ---- the end: no reached router is left
module _
    {n : ℕ} {m : List ℕ} (most : n ≤ width) {d : ℕ} (within : d < n) {dist hops : List ℕ} {σ reached : ℕ}
    (f : Growing n m d dist hops σ reached) (none : reached ≡ 0) where
  end : (j : ℕ) → j < n → bit σ j ≡ false → entry dist j < unreached → ⊥
  end j l b r =
      false≢true (sym (bit_zero j) ∙ ap (λ (x : ℕ). bit x j) (sym none) ∙ (f.ahead j).1 (b, l, r))

  pub distance_column : length dist ≡ width → dist ≡ build width (λ i. distance_cell n m i d)
  distance_column size = is_build width (λ i. distance_cell n m i d) dist size (λ i l. elim (dec_lt i n) [
    | yes b ↦
        distances (topology_graph n m most) most f.front end i b
        ∙ sym (distance_in n m i d b within)
    | no g ↦ f.front.rest i (omega arith) l ∙ sym (distance_out n m i d (inl (omega arith)))
  ])

  module _ (fits : (i : ℕ) → entry hops i < 2 ^ width) where
    -- a router from n on has no link
    no_hops : (i : ℕ) → n ≤ i → i < width → entry hops i ≡ 0
    no_hops i b l =
        no_members (entry hops i) (λ k t.
        let y = (f.front.hops i k l (bit_lt width (entry hops i) k (fits i) t)).0 t in
        let x : ⊥ = omega (arith, (metric_link n m i k y.used).from) in x)

    pub hop_column : length hops ≡ width → hops ≡ build width (λ i. hop_cell n m i d)
    hop_column size = is_build width (λ i. hop_cell n m i d) hops size (λ i l. elim (dec_lt i n) [
      | yes b ↦
          nexts (topology_graph n m most) most f.front end i b (fits i)
          ∙ sym (hops_in n m i d b within)
      | no g ↦ no_hops i (omega arith) l ∙ sym (hops_out n m i d (inl (omega arith)))
    ])
