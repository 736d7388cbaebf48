-- Demand 3 is met: `loop_free`, at the end of this file.
-- The argument over two topologies is made in the crate convergence. It asks for three things, for one destination d:
--     Change       the two topologies differ only at links of the root, and one has no metric above the other's there.
--                  Plan's judgement of the change list gives this: `rises`, `falls`.
--     Sets         the old and the new pointers are a part of the next hops in the two topologies, and not empty where
--                  these are not. The full sets hold exactly the next hops (`old_exact`, `new_exact`), and a set of
--                  four is the four lowest of them (`cut_sets`).
--     Ordered      of a router that has written d, or is done, those that it waited for are done; and one that is done
--                  has written d, where its set of four to d changes. The machine keeps this: `ordered`. Such a router
--                  has heard of all that it waited for, or its due time has come; then they are done too (`waited`).
-- `safe` puts them together, for a rise and for a fall. `fresh_free` says it of the fresh record, and that is what an
-- accepted plan hands back. Of a covered list only the last record is asked (`OnTime`, `covered_last`).
use Rattle.std.specs.Prelude.{ℕ, ◌≤◌, ◌<◌, ◌≡◌, refl, true, false, ◌≢◌, ◌↔◌, List, [], ◌∷◌, eqb, get_or}
use Rattle.std.proofs.Common.{sym, ap, ◌∙◌, ⊎_elim, arith, eqb-true, eq-eqb}
use Rattle.std.proofs.Math.Decide.{dec_lt}
use Rattle.area.specs.Limits.{width, unused, unreached}
use Rattle.area.proofs.TestLaws.{look, same_test}
use Rattle.sets.specs.Sets.{bit, set_of}
use Rattle.sets.proofs.SetLaws.{same_members}
use Rattle.sets.specs.Four.{four}
use Rattle.sets.proofs.FourLaws.{four_part, four_some}
use Rattle.topology.specs.Topology.{topology}
use Rattle.topology.specs.Graph.{Graph}
use Rattle.topology.proofs.TopologyLaws.{topology_graph}
use Rattle.topology.specs.Distance.{distance}
use Rattle.topology.proofs.DistanceLaws.{distance_top}
use Rattle.topology.specs.NextHops.{Next}
use Rattle.changes.specs.Root.{root}
use Rattle.plan.specs.declared.Record.{Record}
use Rattle.plan.specs.NewMetrics.{new_metrics}
use Rattle.plan.specs.Direction.{is_rise}
use Rattle.plan.specs.Waiting.{old_hops, new_hops, old_fours, new_fours, waiting}
use Rattle.plan.specs.Plan.{Tables, are_tables, plan_refusal, fresh, record_of}
use Rattle.plan.proofs.WaitingLaws.{old_next, new_next, old_four_lem, new_four_lem, waits_rise, waits_fall}
use Rattle.plan.proofs.WaitingLaws.{waits_inside, due_at}
use Rattle.plan.specs.Planned.{Plan}
use Rattle.plan.proofs.PlanLaws.{plan_of, plan_step_time, planned_true, record_planned}
use Rattle.plan.proofs.FreshLaws.{plan_elsewhere, plan_rises, plan_falls, fresh_count, fresh_waiting, fresh_due}
use Rattle.plan.proofs.FreshLaws.{fresh_clock, fresh_step}
use Rattle.convergence.specs.Change.{Change, Part, Sets, Ordered, WaitsRise, WaitsFall}
use Rattle.convergence.specs.Convergence.{Safe}
use Rattle.convergence.proofs.ConvergenceLaws.{rise, fall}
use Rattle.machine.specs.Machine.{idle, done, state_of, waiting_of, due_of, written_of}
use Rattle.machine.specs.Run.{Call, run, has_tick, has_written}
use Rattle.machine.proofs.StepLaws.{Free}
use Rattle.machine.proofs.RunLaws.{Kept, run_kept, run_bit, run_written, fresh_start}
use Rattle.machine.proofs.HeldLaws.{Held, run_held, fresh_held}
use Rattle.machine.proofs.OrderedLaws.{fresh_ordered}
use Rattle.machine.proofs.TimelyLaws.{untimed_clock, timely_last, free_heard, stands_heard}
use Rattle.loop_free.specs.LoopFree.{points_to, Reaches, Covered, untimed, timed, OnTime, stands, in_time}
use Rattle.loop_free.specs.LoopFree.{LoopFree}

-- a distance that is not `unreached` is below it
reaches_below : (n : ℕ) (m : List ℕ) (x d : ℕ) → Reaches n m x d → distance n (topology n m) x d < unreached
reaches_below n m x d f = omega (arith, distance_top n (topology n m) x d)

-- ---- sets that hold exactly the next hops toward d
abbrev Exact : (n d : ℕ) (g : ℕ → ℕ → ℕ) (f : ℕ → ℕ) → Type 0
Exact n d g f = (r k : ℕ) → (bit (f r) k ≡ true) ↔ Next n g r d k

-- where a router has the same next hops in two topologies, such sets are equal
exact_same : {n d : ℕ} {lo hi : ℕ → ℕ → ℕ} (at-lo at-hi : ℕ → ℕ)
    → Exact n d lo at-lo
    → Exact n d hi at-hi
    → (r : ℕ)
    → ((k : ℕ) → Next n lo r d k ↔ Next n hi r d k)
    → at-lo r ≡ at-hi r
exact_same at-lo at-hi a b r q =
    same_members (at-lo r) (at-hi r)
    (λ k. same_test (bit (at-lo r) k) (bit (at-hi r) k)
    (λ t. (b r k).1 ((q k).0 ((a r k).0 t)))
    (λ t. (a r k).1 ((q k).1 ((b r k).0 t))))

-- ---- the four lowest of these
abbrev Cut : (f p : ℕ → ℕ) → Type 0
Cut f p = (r : ℕ) → p r ≡ four width (f r)

cut_part : {n d : ℕ} {g : ℕ → ℕ → ℕ} (f : ℕ → ℕ) {p : ℕ → ℕ}
    → n ≤ width
    → Graph n g
    → Exact n d g f
    → Cut f p
    → Part n d g p
cut_part f most graph a cut = record {
  next = λ r k b. (a r k).0 (four_part width (f r) k (ap (λ (s : ℕ). bit s k) (sym (cut r)) ∙ b));
  some = λ r k x.
      let member = four_some width (f r) k (omega (arith, (graph.inside r k x.uses).1)) ((a r k).1 x) in
      (member.0, ap (λ (s : ℕ). bit s member.0) (cut r) ∙ member.1);
}

cut_sets : {n d : ℕ} {lo hi : ℕ → ℕ → ℕ} (full-lo full-hi : ℕ → ℕ) {at-lo at-hi : ℕ → ℕ}
    → n ≤ width
    → Graph n lo
    → Graph n hi
    → Exact n d lo full-lo
    → Exact n d hi full-hi
    → Cut full-lo at-lo
    → Cut full-hi at-hi
    → Sets n d lo hi at-lo at-hi
cut_sets full-lo full-hi most graph-lo graph-hi a b cut-lo cut-hi = record {
  in_lo = cut_part full-lo most graph-lo a cut-lo;
  in_hi = cut_part full-hi most graph-hi b cut-hi;
  same = λ r q. cut-lo r ∙ ap (four width) (exact_same full-lo full-hi a b r q) ∙ sym (cut-hi r);
}

-- `Safe` asks the same of both topologies
swapped : {n d : ℕ} {lo hi : ℕ → ℕ → ℕ} {p : ℕ → ℕ} → Safe n d lo hi p → Safe n d hi lo p
swapped s = record { no_router_twice = s.no_router_twice; arrives = λ x l a b. s.arrives x l b a }

-- ---- a covered list, by its last record
no_tick : has_tick [] ≡ false
unfolding has_tick
no_tick = refl

covered_last :
    (first : Record) (calls : List Call)
    → first.clock ≡ 0
    → (run first calls).step_time ≡ first.step_time
    → Covered first calls
    → OnTime (run first calls)
covered_last first calls z same (untimed none) = stands (untimed_clock first calls none ∙ z)
covered_last first [] z same (timed S F small each) = stands (untimed_clock first [] no_tick ∙ z)
covered_last first (c ∷ cs) z same (timed S F small each) =
    in_time S F (omega arith) (timely_last S F first c cs each)

-- ---- what the plan gives
module _ (n : ℕ) (m l : List ℕ) (p : Plan n m l) where
  most : n ≤ width
  most = p.ready.most

  rises : is_rise n m l ≡ true → Change n (root l) (topology n m) (topology n (new_metrics n m l))
  rises t = record {
    lo_graph = topology_graph n m most;
    hi_graph = topology_graph n (new_metrics n m l) most;
    lower = plan_rises n m l p t;
    elsewhere = plan_elsewhere n m l p;
  }

  falls : is_rise n m l ≡ false → Change n (root l) (topology n (new_metrics n m l)) (topology n m)
  falls f = record {
    lo_graph = topology_graph n (new_metrics n m l) most;
    hi_graph = topology_graph n m most;
    lower = plan_falls n m l p f;
    elsewhere = λ i k a b. sym (plan_elsewhere n m l p i k a b);
  }

  module _ (d : ℕ) where
    old_exact : Exact n d (topology n m) (λ r. old_hops n m r d)
    old_exact r k = old_next n m l most r d k

    new_exact : Exact n d (topology n (new_metrics n m l)) (λ r. new_hops n m l r d)
    new_exact r k = new_next n m l most r d k

    abbrev old_graph : Graph n (topology n m)
    old_graph = topology_graph n m most

    abbrev new_graph : Graph n (topology n (new_metrics n m l))
    new_graph = topology_graph n (new_metrics n m l) most

    old_cut : Cut (λ r. old_hops n m r d) (λ r. old_fours n m r d)
    old_cut r = old_four_lem n m r d

    new_cut : Cut (λ r. new_hops n m l r d) (λ r. new_fours n m l r d)
    new_cut r = new_four_lem n m l r d

    -- the sets of four of a rise, and of a fall
    rise_sets :
        Sets n d (topology n m) (topology n (new_metrics n m l)) (λ r. old_fours n m r d) (λ r. new_fours n m l r d)
    rise_sets =
        cut_sets (λ r. old_hops n m r d) (λ r. new_hops n m l r d) most old_graph new_graph old_exact new_exact
        old_cut new_cut

    fall_sets :
        Sets n d (topology n (new_metrics n m l)) (topology n m) (λ r. new_fours n m l r d) (λ r. old_fours n m r d)
    fall_sets =
        cut_sets (λ r. new_hops n m l r d) (λ r. old_hops n m r d) most new_graph old_graph new_exact old_exact
        new_cut old_cut

    -- no router beyond the area has a next hop, before the change or after it
    fours_beyond : (r : ℕ) → n ≤ r → old_fours n m r d ≡ new_fours n m l r d
    fours_beyond r b =
        rise_sets.same r
        (λ k. ((λ x. absurd (none m k x.uses)), (λ x. absurd (none (new_metrics n m l) k x.uses))))
      where
        none : (o : List ℕ) (k : ℕ) → topology n o r k < unused → ⊥
        none o k u = omega (arith, ((topology_graph n o most).inside r k u).0)

  -- ---- what the record has after the calls
  module _
      (hold step : ℕ) (some : step ≢ 0) (calls : List Call)
      (on-time : OnTime (run (fresh n hold step m l) calls)) where
    abbrev first : Record
    first = fresh n hold step m l

    abbrev now : Record
    now = run first calls

    kept : Kept first now
    kept = run_kept first calls (fresh_start n hold step m l)

    held : Held first now
    held = run_held calls (fresh_held n hold step m l)

    -- a router that has learned and need not wait waited for routers that are done
    waited : (r w : ℕ) → Free now r → state_of now r ≢ idle → bit (waiting n m l r) w ≡ true → state_of now w ≡ done
    waited r w free learned e = by_time on-time
      where
        inside : r < first.n
        inside = omega (arith, (waits_inside n m l most r w e).0, fresh_count n hold step m l)

        waits_first : bit (waiting_of first r) w ≡ true
        waits_first =
            ap (λ (s : ℕ). bit s w) (fresh_waiting n hold step m l most r (waits_inside n m l most r w e).0) ∙ e

        steps : first.step_time ≢ 0
        steps q = some (sym (fresh_step n hold step m l) ∙ q)

        by_time : OnTime now → state_of now w ≡ done
        by_time (stands z) =
            stands_heard (fresh_ordered n hold step m l p) held steps kept z r w inside waits_first free
        by_time (in_time S F small t) =
            free_heard (fresh_ordered n hold step m l p) held steps kept S F (omega (arith, held.step)) t r w inside
            waits_first learned free

    module _ (d : ℕ) (d-in : d < n) where
      -- a destination to which the set of four of r changes is due at r
      is_due : (r : ℕ) → old_fours n m r d ≢ new_fours n m l r d → bit (due_of now r) d ≡ true
      is_due r f = elim (dec_lt r n) [
        | yes h ↦
            let entry = ap (λ (t : List ℕ). get_or t r 0) kept.due ∙ fresh_due n hold step m l most r h in
            ap (λ (s : ℕ). bit s d) entry ∙ (due_at n m l most r d d-in).1 f
        | no g ↦ absurd (f (fours_beyond d r (omega arith)))
      ]

      -- the order in which routers write and are done, where `waits r w` puts w into the fresh waiting set of r
      ordered : (waits : ℕ → ℕ → Type 0)
          → ((r w : ℕ) → waits r w → bit (waiting n m l r) w ≡ true)
          → Ordered waits (λ r. old_fours n m r d) (λ r. new_fours n m l r d)
          (λ r. has_written first calls r d) (λ r. eqb (state_of now r) done)
      ordered waits f = record {
        wrote_after = λ r w e x.
            let wrote = wrote_bit r ∙ e in
            eq-eqb (state_of now w) done
            (waited r w (kept.wrote_free r d wrote) (kept.wrote_awake r d wrote) (f r w x));
        done_after = λ r w e x.
            let is_done = eqb-true (state_of now r) done e in
            eq-eqb (state_of now w) done
            (waited r w (kept.done_free r is_done) (λ z. omega arith) (f r w x));
        done_wrote = λ r e x.
            let is_done = eqb-true (state_of now r) done e in
            sym (wrote_bit r) ∙ kept.done_wrote r d (omega (arith, most)) is_done (is_due r x);
      }
        where
          wrote_bit : (r : ℕ) → bit (written_of now r) d ≡ has_written first calls r d
          wrote_bit r = run_bit first calls (fresh_start n hold step m l) r d (omega (arith, most))

      abbrev Demand : Type 0
      Demand = Safe n d (topology n m) (topology n (new_metrics n m l)) (points_to n m l first calls d)

      safe : Demand
      safe = ⊎_elim by_rise by_fall (look (is_rise n m l))
        where
          by_rise : is_rise n m l ≡ true → Demand
          by_rise t =
              rise (rises t) d-in (rise_sets d)
              (ordered (WaitsRise n (root l) (topology n m)) (λ r w. (waits_rise n m l most t r w).1))

          by_fall : is_rise n m l ≡ false → Demand
          by_fall f =
              let waits = WaitsFall n (root l) (topology n (new_metrics n m l)) in
              swapped (fall (falls f) d-in (fall_sets d)
              (ordered waits (λ r w. (waits_fall n m l most f r w).1)))

    fresh_free : LoopFree n m l first calls
    fresh_free = record {
      written = λ r.
          run_written first calls (fresh_start n hold step m l) (omega (arith, fresh_count n hold step m l, most)) r
          ∙ ap (λ (k : ℕ). set_of k (has_written first calls r)) (fresh_count n hold step m l);
      no_router_twice = λ d x walk h. (safe d h).no_router_twice x walk;
      arrives = λ d x walk h old new.
          (safe d h).arrives x walk (reaches_below n m x d old) (reaches_below n (new_metrics n m l) x d new);
    }

-- Demand 3, for every input that Plan accepts and every list of calls, by the last record alone ..
pub last_free :
    (n h s : ℕ) (metrics changes : List ℕ) (lent : Tables)
    → plan_refusal n s metrics changes (are_tables metrics lent) ≡ 0
    → (calls : List Call)
    → OnTime (run (record_of n h s metrics changes lent) calls)
    → LoopFree n metrics changes (record_of n h s metrics changes lent) calls
last_free n h s m l t z calls on-time =
    let e = record_planned n h s m l t (planned_true n s m l t z) in
    let some = plan_step_time n s m l (are_tables m t) z in
    rw e (fresh_free n m l (plan_of n s m l t z) h s some calls (rw e at on-time))

-- .. and for every list of calls that is covered.
pub loop_free :
    (n h s : ℕ) (metrics changes : List ℕ) (lent : Tables)
    → plan_refusal n s metrics changes (are_tables metrics lent) ≡ 0
    → (calls : List Call)
    → Covered (record_of n h s metrics changes lent) calls
    → LoopFree n metrics changes (record_of n h s metrics changes lent) calls
loop_free n h s m l t z calls covered =
    let e = record_planned n h s m l t (planned_true n s m l t z) in
    let held = run_held calls (fresh_held n h s m l) in
    let last = covered_last (fresh n h s m l) calls (fresh_clock n h s m l) held.step (rw e at covered) in
    last_free n h s m l t z calls (rw e last)
