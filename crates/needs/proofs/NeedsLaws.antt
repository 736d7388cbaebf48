-- The promises of No. 8, as No. 10 restates them, for every plan and every list of calls on its fresh record, in any
-- order, ticks and refused and ignored calls included. What is counted are answers ok of the kinds learn to deliver.
--     always_counted   the answers ok and what is missing are together what the change needs
--     gets_there       unless all routers are done, some call is answered ok, at most a hold time from now
--     needs_exactly    in a list that ends with all routers done and every waiting set empty, exactly as many answers
--                      are ok as the change needs
--     untimed_exactly  and in one without ticks that ends with all routers done, since then no waiting set is left
--     needs_most       in no list are more
--     still_missing    from any record on the way, as many are still to come as are missing there
--     done_missing     nothing is missing exactly where all routers are done and every waiting set is empty
--     needs_few        what a change needs at most, by the number of routers
--     start_counted, start_exactly     the count of every record that starts, of which a fresh one is
use Rattle.std.specs.Prelude.{ℕ, ◌+◌, ◌*◌, ◌≤◌, ◌<◌, ◌≡◌, true, false, ◌≢◌, ◌⊎◌, List, ◌++◌, get_or}
use Rattle.std.proofs.Common.{sym, ap, ◌∙◌, subst, arith}
use Rattle.area.specs.Limits.{width, longest_time}
use Rattle.sets.specs.Sets.{bit}
use Rattle.sets.specs.Counts.{size}
use Rattle.sets.proofs.CountLaws.{total_most, size_within, size_most}
use Rattle.plan.specs.declared.Record.{Record}
use Rattle.plan.specs.Plan.{Tables, are_tables, plan_refusal, fresh, record_of}
use Rattle.plan.proofs.PlanLaws.{plan_step_time, plan_of, planned_true, record_planned}
use Rattle.plan.proofs.FreshLaws.{fresh_hold, fresh_step, fresh_clock}
use Rattle.machine.specs.Machine.{waiting_of, due_of}
use Rattle.machine.specs.Run.{Call, run, has_tick}
use Rattle.machine.proofs.CallLaws.{run_joined}
use Rattle.machine.proofs.RunLaws.{Start, Kept, run_kept, fresh_start}
use Rattle.machine.proofs.HeldLaws.{Held, run_held, fresh_held}
use Rattle.machine.proofs.OrderedLaws.{Ordered, fresh_ordered}
use Rattle.machine.proofs.TimelyLaws.{untimed_clock, free_empty}
use Rattle.needs.specs.Needs.{oks, sizes, needs, missing, AllDone, AllHeard, last_hold_start, GoesOn}
use Rattle.needs.proofs.CountedLaws.{run_counts, fresh_missing, none_missing, missing_done, missing_heard}
use Rattle.needs.proofs.ProgressLaws.{progress}

-- ---- every record that starts: all routers are idle, nothing is written, and the tables have their sizes
module _ {first : Record} (start : Start first) (held : Held first first) (calls : List Call) where
  pub start_counted : oks first calls + missing (run first calls) ≡ needs first
  start_counted = run_counts calls held ∙ fresh_missing first start

  pub start_exactly : AllDone (run first calls) → AllHeard (run first calls) → oks first calls ≡ needs first
  start_exactly all heard = omega (arith, start_counted, none_missing (run_kept first calls start) all heard)

-- ---- what it can need: of any record, since no set has more members than bits; and of a plan's, since no set has more
-- members than there are routers
pub needs_any : (r : Record) → needs r ≤ 3 * r.n + 2 * (width * r.n)
unfolding needs
needs_any r = omega (arith, members r.due, members r.waiting)
  where
    members : (t : List ℕ) → sizes r.n t ≤ width * r.n
    members t = total_most width (λ x. size width (get_or t x 0)) r.n (λ x h. size_most width (get_or t x 0))

pub needs_few :
    {r : Record} → Ordered r → (most : ℕ) → r.n ≤ most
    → needs r ≤ 3 * r.n + 2 * (most * r.n)
unfolding needs
needs_few {r} o most few = omega (arith, due, waiting)
  where
    within : (s : ℕ) → ((k : ℕ) → bit s k ≡ true → k < r.n) → size width s ≤ most
    within s inside = omega (arith, size_within r.n width s o.most inside, size_most r.n s)

    due : sizes r.n r.due ≤ most * r.n
    due = total_most most (λ x. size width (due_of r x)) r.n (λ x h. within (due_of r x) (λ d. o.due x d h))

    waiting : sizes r.n r.waiting ≤ most * r.n
    waiting =
        total_most most (λ x. size width (waiting_of r x)) r.n
        (λ x h. within (waiting_of r x) (λ w. o.inside x w h))

-- ---- the fresh record of every plan
module _
    (n hold step : ℕ) (metrics changes : List ℕ) (lent : Tables)
    (accepted : plan_refusal n step metrics changes (are_tables metrics lent) ≡ 0) (calls : List Call)
  where
    abbrev first : Record
    first = record_of n hold step metrics changes lent

    abbrev now : Record
    now = run first calls

    is_fresh : first ≡ fresh n hold step metrics changes
    is_fresh = record_planned n hold step metrics changes lent (planned_true n step metrics changes lent accepted)

    start : Start first
    start = rw is_fresh (fresh_start n hold step metrics changes)

    held : Held first first
    held = rw is_fresh (fresh_held n hold step metrics changes)

    ordered : Ordered first
    ordered = rw is_fresh (fresh_ordered n hold step metrics changes (plan_of n step metrics changes lent accepted))

    has_hold : first.hold_time ≡ hold
    has_hold = rw is_fresh (fresh_hold n hold step metrics changes)

    has_step : first.step_time ≢ 0
    has_step z =
        let is-step = ap (λ (r : Record). r.step_time) is_fresh ∙ fresh_step n hold step metrics changes in
        plan_step_time n step metrics changes (are_tables metrics lent) accepted (sym is-step ∙ z)

    pub always_counted : oks first calls + missing now ≡ needs first
    always_counted = start_counted start held calls

    pub gets_there : hold ≤ longest_time → now.clock ≤ last_hold_start → AllDone now ⊎ GoesOn now
    gets_there short =
        let after = run_held calls held in
        progress ordered after (omega (arith, has_hold, after.hold))

    pub needs_exactly : AllDone now → AllHeard now → oks first calls ≡ needs first
    needs_exactly = start_exactly start held calls

    -- the clock stands at 0, and no due time of a router that waits has come
    pub untimed_exactly : has_tick calls ≡ false → AllDone now → oks first calls ≡ needs first
    untimed_exactly untimed all =
        needs_exactly all
        (λ x h. free_empty ordered after has_step stands x (omega (arith, after.count)) (kept.done_free x (all x h)))
      where
        after : Held first now
        after = run_held calls held

        kept : Kept first now
        kept = run_kept first calls start

        stands : now.clock ≡ 0
        stands = untimed_clock first calls untimed ∙ rw is_fresh (fresh_clock n hold step metrics changes)

    pub needs_most : oks first calls ≤ needs first
    needs_most = omega (arith, always_counted)

    pub done_missing :
        (AllDone now → AllHeard now → missing now ≡ 0) × (missing now ≡ 0 → AllDone now × AllHeard now)
    done_missing =
        let after = run_held calls held in
        (none_missing (run_kept first calls start), λ e. (missing_done ordered after e, missing_heard ordered after e))

    pub still_missing :
        (more : List Call) → AllDone (run now more) → AllHeard (run now more) → oks now more ≡ missing now
    still_missing more all heard =
        let joined = sym (run_joined first calls more) in
        let kept = run_kept first (calls ++ more) start in
        let ended = none_missing kept (subst AllDone joined all) (subst AllHeard joined heard) in
        omega (arith, run_counts more (run_held calls held), ap missing (sym joined), ended)
