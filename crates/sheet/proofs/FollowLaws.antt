-- Following the sheet finishes every router, and every call is answered ok. First all routers learn, which needs no
-- more than that they are idle at first. The clock stands at 0 meanwhile, so all learn times are 0; after the ticks it
-- shows the hold time, and all are released in time. Then each has its turn (TurnLaws.antt), when all that it waits for
-- have had theirs (SheetLaws.antt); after n turns all are done, and every message has arrived.
--     sheet_calls_lem          the calls of a record's sheet are those of its places
--     Ended                the end of it
--     Passing, pass        while routers learn, and while they are released: the first k of them have
--     time_passes          between the two, the hold time
--     ordered_followed     following the sheet of an ordered record
--     sheet_followed       the theorem: following the sheet of every plan
use Rattle.std.specs.Prelude.{ℕ, zero, suc, ◌+◌, ◌≤◌, ◌<◌, ◌≡◌, refl, true, false, ◌≢◌, set}
use Rattle.std.proofs.Math.Path.{sym, ap}
use Rattle.std.proofs.Common.{ap₂, ◌∙◌, subst, ⊎_elim, eq-or-lt_of_le, le_of_suc-le-suc, arith, get_or-set_same}
use Rattle.std.proofs.Common.{get_or-set_other}
use Rattle.std.proofs.lemmas.Bool.{false≢true}
use mathlib.Core.List.{List, [], ◌∷◌, ◌++◌}
use Rattle.std.proofs.Math.ListN.{get_or}
use Rattle.std.proofs.lemmas.List.{set-get_or}
use Rattle.area.specs.Limits.{width, longest_time, last_time}
use Rattle.area.proofs.TestLaws.{and_one}
use Rattle.sets.specs.Sets.{bit}
use Rattle.sets.proofs.SetLaws.{bit_zero, no_members}
use Rattle.plan.specs.declared.Record.{Record}
use Rattle.plan.specs.Plan.{Tables, are_tables, plan_refusal, record_of}
use Rattle.plan.proofs.PlanLaws.{plan_of, planned_true, record_planned}
use Rattle.plan.proofs.FreshLaws.{fresh_hold, fresh_clock, fresh_learned}
use Rattle.machine.specs.Answers.{ok, gives}
use Rattle.machine.specs.Machine.{idle, holding, ongoing, done, learn_kind, release_kind}
use Rattle.machine.specs.Machine.{state_of, waiting_of, rank_of, learn_time, with_state, with_times, is_record, step_of}
use Rattle.machine.specs.Run.{Call, call, run, ticks}
use Rattle.machine.proofs.RunLaws.{Start, fresh_start}
use Rattle.machine.proofs.HeldLaws.{Held, state_held, run_held, fresh_held}
use Rattle.machine.proofs.OkLaws.{learns, releases}
use Rattle.machine.proofs.OrderedLaws.{Ordered, sound, fresh_ordered}
use Rattle.machine.proofs.TimelyLaws.{ticks_clock}
use Rattle.needs.specs.Needs.{AllDone, AllHeard}
use Rattle.sheet.specs.Sheet.{placed, place_at, sheet_of}
use Rattle.sheet.proofs.SheetLaws.{Acyclic, is_placed, at_place, all_in, ordered_acyclic, sheet_at}
use Rattle.sheet.specs.Follow.{each, call_each, turn, hold_ticks, following, sheet_calls, AllOk}
use Rattle.sheet.proofs.WentLaws.{Went, went_one, went_then, went_ticks, went_each}
use Rattle.sheet.proofs.TurnLaws.{left, Turned, one_turn}

-- ---- the calls of a record's sheet are those of its places
each_same :
    (n : ℕ) (f g : ℕ → List Call)
    → ((k : ℕ) → k < n → f k ≡ g k)
    → each n f ≡ each n g
unfolding each
each_same zero f g e = refl
each_same (suc n) f g e = ap₂ ◌++◌ (each_same n f g (λ k h. e k (omega arith))) (e n (omega arith))

pub sheet_calls_lem : (r : Record) → r.n ≤ width → sheet_calls r ≡ following r (place_at r.n (waiting_of r))
sheet_calls_lem r most =
    let learning = call_each r.n (λ x. call learn_kind x 0) in
    let releasing = call_each r.n (λ x. call release_kind x 0) in
    ap (λ (turns : List Call). learning ++ (hold_ticks r ++ (releasing ++ turns)))
    (each_same r.n (λ k. turn r (get_or (sheet_of r) k 0)) (λ k. turn r (place_at r.n (waiting_of r) k))
    (λ k h. ap (turn r) (sheet_at r most k h)))

-- ---- the end: all routers are done, and every waiting set is empty
abbrev pub Ended : (r : Record) → Type 0
Ended r = AllDone r × AllHeard r

-- ---- learning, and being released
-- the first k routers have gone from one state to the next, while the clock shows this time
record Passing (first : Record) (from to time k : ℕ) (now : Record) : Type 0 where
  held : Held first now
  waiting : now.waiting ≡ first.waiting
  written : now.written ≡ first.written
  clock : now.clock ≡ time
  learned : now.learn_times ≡ first.learn_times
  passed : (x : ℕ) → x < k → state_of now x ≡ to
  others : (x : ℕ) → k ≤ x → x < first.n → state_of now x ≡ from

module _ {first : Record} (o : Ordered first) where
  abbrev n : ℕ
  n = first.n

  abbrev w : (x : ℕ) → ℕ
  w x = waiting_of first x

  abbrev hold : ℕ
  hold = first.hold_time

  pass :
      (kind from to time : ℕ)
      → to ≤ done
      → ((k : ℕ) (now : Record) → k < n → Passing first from to time k now
      → step_of now kind k 0 ≡ gives (with_state now k to) ok)
      → (k : ℕ) (now : Record) → k < n → Passing first from to time k now
      → Went (Passing first from to time (suc k)) now (call kind k 0 ∷ [])
  pass kind from to time known goes k now h p =
      went_one kind k 0 (with_state now k to) (goes k now h p)
      (record {
        held = state_held p.held k to known;
        waiting = p.waiting;
        written = p.written;
        clock = p.clock;
        learned = p.learned;
        passed = λ x l. ⊎_elim now_passed (passed_before x) (eq-or-lt_of_le (le_of_suc-le-suc l));
        others = λ x l b. other x (λ q. omega arith) ∙ p.others x (omega arith) b;
      })
    where
      other : (x : ℕ) → x ≢ k → state_of (with_state now k to) x ≡ state_of now x
      other x f = get_or-set_other now.states k x to 0 f

      now_passed : {x : ℕ} → x ≡ k → state_of (with_state now k to) x ≡ to
      now_passed q =
          ap (state_of (with_state now k to)) q
          ∙ get_or-set_same now.states k to 0 (omega (arith, p.held.states_size, o.most))

      passed_before : (x : ℕ) → x < k → state_of (with_state now k to) x ≡ to
      passed_before x b = other x (λ q. omega arith) ∙ p.passed x b

  -- ---- the whole sheet; the clock stands at 0 at first, and no learn time is noted yet
  module _
      (start : Start first) (held : Held first first) (stands : first.clock ≡ 0)
      (unlearned : (x : ℕ) → learn_time first x ≡ 0) (short : hold ≤ longest_time)
    where
      none_learned : Passing first idle holding 0 0 first
      none_learned = record {
        held = held;
        waiting = refl;
        written = refl;
        clock = stands;
        learned = refl;
        passed = λ x h. absurd (let z : ⊥ = omega arith in z);
        others = λ x l h. start.state x;
      }

      zero_learned :
          {from to time k : ℕ} (now : Record) → Passing first from to time k now
          → (x : ℕ) → learn_time now x ≡ 0
      zero_learned now p x = ap (λ (t : List ℕ). get_or t x 0) p.learned ∙ unlearned x

      -- the clock that it notes is the learn time that it has already
      learn_goes :
          (k : ℕ) (now : Record) → k < n → Passing first idle holding 0 k now
          → step_of now learn_kind k 0 ≡ gives (with_state now k holding) ok
      learn_goes k now h p =
          learns now (sound o p.held) k (omega (arith, p.held.count)) (p.others k (omega arith) h)
          ∙ ap (λ (times : List ℕ). gives (with_times (with_state now k holding) now.clock times) ok) as_before
        where
          as_before : set now.learn_times k now.clock ≡ now.learn_times
          as_before =
              ap (set now.learn_times k) (p.clock ∙ sym (zero_learned now p k))
              ∙ set-get_or now.learn_times k 0

      -- from the hold time on, a router that learned at 0 is released
      release_goes :
          (k : ℕ) (now : Record) → k < n → Passing first holding ongoing hold k now
          → step_of now release_kind k 0 ≡ gives (with_state now k ongoing) ok
      release_goes k now h p =
          releases now (sound o p.held) k (omega (arith, p.held.count)) (p.others k (omega arith) h)
          (omega (arith, zero_learned now p k, p.held.hold, p.clock))

      -- the hold time goes by
      time_passes :
          (now : Record) → Passing first idle holding 0 n now
          → Went (Passing first holding ongoing hold 0) now (hold_ticks first)
      time_passes now p =
          went_ticks hold good room (record {
            held = subst (Held first) (ticks_clock now hold good room) (run_held (ticks hold) p.held);
            waiting = p.waiting;
            written = p.written;
            clock = omega (arith, p.clock);
            learned = p.learned;
            passed = λ x h. absurd (let z : ⊥ = omega arith in z);
            others = λ x l h. p.passed x h;
          })
        where
          good : is_record now ≡ true
          good = sound o p.held

          room : now.clock + hold ≤ last_time
          room = omega (arith, p.clock)

      none_turned : (now : Record) → Passing first holding ongoing hold n now → Turned first (placed n w 0) now
      unfolding placed
      none_turned now p = record {
        held = p.held;
        waits = λ x v h l.
            ap (λ (y : List ℕ). bit (get_or y x 0) v) p.waiting
            ∙ sym (rw (bit_zero v) (and_one (bit (w x) v)));
        gone = λ x h e. absurd (false≢true (sym (bit_zero x) ∙ e));
        here = λ x h e. p.passed x h;
        clean = λ x h e. ap (λ (y : List ℕ). get_or y x 0) p.written ∙ start.written x;
      }

      next_turn :
          (k : ℕ) (now : Record) → k < n → Turned first (placed n w k) now
          → Went (Turned first (placed n w (suc k))) now (turn first (place_at n w k))
      unfolding placed
      next_turn k now h p =
          let order = ordered_acyclic o in
          one_turn o (is_placed order k (omega arith)) (at_place order k h) now p

      -- when all have had their turn, all are done, and nobody waits for one of them
      all_turned : (now : Record) → Turned first (placed n w n) now → Ended now
      all_turned now p = (
        (λ x h. p.gone x (inside h) (all_in order x (inside h))),
        (λ x h. no_members (waiting_of now x) (no_member x (inside h))),
      )
        where
          order : Acyclic n w (rank_of first)
          order = ordered_acyclic o

          inside : {x : ℕ} → x < now.n → x < n
          inside h = omega (arith, p.held.count)

          no_member : (x : ℕ) → x < n → (v : ℕ) → bit (waiting_of now x) v ≡ true → ⊥
          no_member x h v e =
              let waited = p.held.waits x v e in
              let among = o.inside x v h waited in
              let none_left : left first (placed n w n) x v ≡ false = rw (waited, all_in order v among) refl in
              false≢true (sym none_left ∙ sym (p.waits x v h (omega (arith, among, o.most))) ∙ e)

      turns :
          (now : Record) → Passing first holding ongoing hold n now
          → Went Ended now (each n (λ k. turn first (place_at n w k)))
      turns now p = record {
        all_ok = went.all_ok;
        reached = all_turned (run now (each n (λ k. turn first (place_at n w k)))) went.reached;
      }
        where
          went : Went (Turned first (placed n w n)) now (each n (λ k. turn first (place_at n w k)))
          went =
              went_each (λ k. Turned first (placed n w k)) (λ k. turn first (place_at n w k)) n next_turn now
              (none_turned now p)

      by_places : Went Ended first (following first (place_at n w))
      by_places =
          went_then (call_each n (λ x. call learn_kind x 0)) _
          (went_each (Passing first idle holding 0) (λ x. call learn_kind x 0 ∷ []) n
          (pass learn_kind idle holding 0 (omega arith) learn_goes) first none_learned)
          (λ learned p. went_then (hold_ticks first) _ (time_passes learned p)
          (λ held q. went_then (call_each n (λ x. call release_kind x 0)) _
          (went_each (Passing first holding ongoing hold) (λ x. call release_kind x 0 ∷ []) n
          (pass release_kind holding ongoing hold (omega arith) release_goes) held q)
          turns))

      pub ordered_followed : Went Ended first (sheet_calls first)
      ordered_followed = rw (sheet_calls_lem first o.most) by_places

-- ---- the theorem
pub sheet_followed :
    (n hold step : ℕ) (metrics changes : List ℕ) (lent : Tables)
    → plan_refusal n step metrics changes (are_tables metrics lent) ≡ 0
    → hold ≤ longest_time
    → let first = record_of n hold step metrics changes lent in
    let last = run first (sheet_calls first) in
    AllOk first (sheet_calls first) × AllDone last × AllHeard last
sheet_followed n h s m l t z short =
    let p = plan_of n s m l t z in
    let went = ordered_followed (fresh_ordered n h s m l p) (fresh_start n h s m l) (fresh_held n h s m l)
    (fresh_clock n h s m l) (fresh_learned n h s m l) (omega (arith, fresh_hold n h s m l)) in
    rw (record_planned n h s m l t (planned_true n s m l t z))
    (went.all_ok, went.reached.0, went.reached.1)
