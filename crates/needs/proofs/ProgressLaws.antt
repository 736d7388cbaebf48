-- Progress: unless all routers are done, some call is answered ok, at once or after some ticks. Of the routers that are
-- not done, take one of least rank: all that it waits for rank lower, and are done. So it learns, or a message arrives
-- at it, or it writes, or it finishes; or it is released, after the ticks that its hold time still lasts. These are at
-- most the hold time, since it has not learned later than now.
--     free_goes        a router that waits for none
--     holding_goes     one that holds
--     least_goes       one that is not done, where all of lesser rank are
--     progress         every record that comes after an ordered one
use Rattle.std.specs.Prelude.{ℕ, ◌+◌, ◌-◌, ◌≤◌, ◌<◌, ◌≡◌, Bool, true, false, not, ◌&&◌, ◌≢◌, ◌⊎◌, List, eqb, get_or}
use Rattle.std.proofs.Common.{sym, ap, ◌∙◌, inl, inr, ⊎_elim, arith, eqb-true}
use Rattle.std.proofs.lemmas.Bool.{false≢true, eqb-false, not-true, not-false}
use Rattle.std.proofs.Math.Decide.{ℕ_discrete}
use Rattle.area.specs.Limits.{width, longest_time}
use Rattle.area.proofs.TestLaws.{look, both_true}
use Rattle.area.proofs.LowestLaws.{NoneOrLeast, some_least}
use Rattle.sets.specs.Sets.{bit}
use Rattle.sets.proofs.SetLaws.{no_members, at_subset}
use Rattle.plan.specs.declared.Record.{Record}
use Rattle.machine.specs.Answers.{ok, gives, Outcome}
use Rattle.machine.specs.Machine.{idle, holding, ongoing, done}
use Rattle.machine.specs.Machine.{learn_kind, release_kind, write_kind, finish_kind, deliver_kind}
use Rattle.machine.specs.Machine.{state_of, waiting_of, due_of, written_of, rank_of, held_until}
use Rattle.machine.specs.Machine.{with_state, with_clock, is_record, step_of}
use Rattle.machine.specs.Run.{call}
use Rattle.machine.proofs.StepLaws.{waits_none}
use Rattle.machine.proofs.CallLaws.{run_empty}
use Rattle.machine.proofs.HeldLaws.{Held}
use Rattle.machine.proofs.OkLaws.{learns, releases, writes, finishes, delivers}
use Rattle.machine.proofs.OrderedLaws.{Ordered, sound}
use Rattle.machine.proofs.TimelyLaws.{ticks_clock}
use Rattle.needs.specs.Needs.{AllDone, last_hold_start, GoesOn}

module _
    {first now : Record} (o : Ordered first) (held : Held first now)
    (short : now.hold_time ≤ longest_time) (early : now.clock ≤ last_hold_start)
  where
    good : is_record now ≡ true
    good = sound o held

    -- a router of the record is one of the first
    is_router : {x : ℕ} → x < now.n → x < first.n
    is_router h = omega (arith, held.count)

    -- the call is answered ok at once
    goes :
        (kind a b : ℕ)
        → learn_kind ≤ kind
        → kind ≤ deliver_kind
        → a < now.n
        → b < now.n
        → {next : Record}
        → step_of now kind a b ≡ gives next ok
        → GoesOn now
    goes kind a b from to ha hb e = record {
      wait = 0;
      wait_most = omega arith;
      next = call kind a b;
      kind_from = from;
      kind_to = to;
      a_inside = ha;
      b_inside = hb;
      answered = rw (run_empty now) (ap (λ (y : Outcome). y.reply) e);
    }

    -- x holds: it is released once its hold time is over
    holding_goes : (x : ℕ) → x < now.n → state_of now x ≡ holding → GoesOn now
    holding_goes x h e = record {
      wait = wait;
      wait_most = omega (arith, held.past x);
      next = call release_kind x 0;
      kind_from = omega arith;
      kind_to = omega arith;
      a_inside = h;
      b_inside = omega arith;
      answered =
          rw (ticks_clock now wait good (omega (arith, held.past x)))
          (ap (λ (y : Outcome). y.reply) released);
    }
      where
        wait : ℕ
        wait = held_until now x - now.clock

        later : Record
        later = with_clock now (now.clock + wait)

        released : step_of later release_kind x 0 ≡ gives (with_state later x ongoing) ok
        released = releases later good x h e (omega arith)

    -- x waits for none: it writes what is left to write, or it finishes
    free_goes : (x : ℕ) → x < now.n → state_of now x ≡ ongoing → waiting_of now x ≡ 0 → GoesOn now
    free_goes x h e free = by_unwritten (some_least unwritten (λ d. d) width)
      where
        unwritten : (d : ℕ) → Bool
        unwritten d = bit (due_of now x) d && not (bit (written_of now x) d)

        is_due : (d : ℕ) → bit (due_of now x) d ≡ true → d < now.n
        is_due d t =
            let at_first = ap (λ (s : List ℕ). bit (get_or s x 0) d) (sym held.due) ∙ t in
            omega (arith, held.count, o.due x d (is_router h) at_first)

        was_written :
            (d : ℕ) → unwritten d ≡ false → bit (due_of now x) d ≡ true
            → bit (written_of now x) d ≡ true
        was_written d f t = not-false (bit (written_of now x) d) (rw t at f)

        by_unwritten : NoneOrLeast unwritten (λ d. d) width → GoesOn now
        by_unwritten (inl none) =
            let all = at_subset width (due_of now x) (written_of now x) (λ d l t. was_written d (none d l) t) in
            goes finish_kind x 0 (omega arith) (omega arith) h (omega arith)
            (finishes now good x h e (waits_none free) all)
        by_unwritten (inr (d, t)) =
            let parts = both_true (bit (due_of now x) d) (not (bit (written_of now x) d)) t.passes in
            let inside = is_due d parts.0 in
            let new = not-true (bit (written_of now x) d) parts.1 in
            goes write_kind x d (omega arith) (omega arith) h inside
            (writes now good x h d inside e (waits_none free) parts.0 new)

    -- x is not done, and all of lesser rank are
    least_goes :
        (x : ℕ) → x < now.n → state_of now x ≢ done
        → ((y : ℕ) → y < now.n → rank_of first y < rank_of first x → state_of now y ≡ done)
        → GoesOn now
    least_goes x h not_done below = by_state (ℕ_discrete (state_of now x) idle) (ℕ_discrete (state_of now x) holding)
      where
        -- whom x waits for, x waited for at first
        waited : (w : ℕ) → bit (waiting_of now x) w ≡ true → w < now.n
        waited w t = omega (arith, held.count, o.inside x w (is_router h) (held.waits x w t))

        by_waiting : state_of now x ≡ ongoing → NoneOrLeast (bit (waiting_of now x)) (λ w. w) now.n → GoesOn now
        by_waiting e (inl none) =
            free_goes x h e (no_members (waiting_of now x) (λ w t. false≢true (sym (none w (waited w t)) ∙ t)))
        by_waiting e (inr (w, t)) =
            let at_first = held.waits x w t.passes in
            let w-done = below w t.below (o.below x w (is_router h) at_first) in
            let told = o.told x w (is_router h) at_first in
            let tells = ap (λ (s : List ℕ). bit (get_or s w 0) x) held.telling ∙ told in
            goes deliver_kind w x (omega arith) (omega arith) t.below h
            (delivers now good w t.below x h w-done tells e t.passes)

        by_state : Dec (state_of now x ≡ idle) → Dec (state_of now x ≡ holding) → GoesOn now
        by_state (yes e) other =
            goes learn_kind x 0 (omega arith) (omega arith) h (omega arith) (learns now good x h e)
        by_state (no f) (yes e) = holding_goes x h e
        by_state (no f) (no g) =
            by_waiting (omega (arith, held.known x)) (some_least (bit (waiting_of now x)) (λ w. w) now.n)

    pub progress : AllDone now ⊎ GoesOn now
    progress = by_least (some_least (λ x. not (eqb (state_of now x) done)) (rank_of first) now.n)
      where
        is_done : (x : ℕ) → not (eqb (state_of now x) done) ≡ false → state_of now x ≡ done
        is_done x f = eqb-true (state_of now x) done (not-false (eqb (state_of now x) done) f)

        lower :
            (x y : ℕ)
            → rank_of first y < rank_of first x
            → (not (eqb (state_of now y) done) ≡ true → rank_of first x ≤ rank_of first y)
            → state_of now y ≡ done
        lower x y l least =
            ⊎_elim (λ t. absurd (let z : ⊥ = omega (arith, least t) in z)) (is_done y)
            (look (not (eqb (state_of now y) done)))

        by_least :
            NoneOrLeast (λ x. not (eqb (state_of now x) done)) (rank_of first) now.n
            → AllDone now ⊎ GoesOn now
        by_least (inl none) = inl (λ x h. is_done x (none x h))
        by_least (inr (x, t)) =
            let not_done = eqb-false (state_of now x) done (not-true (eqb (state_of now x) done) t.passes) in
            inr (least_goes x t.below not_done (λ y h l. lower x y l (t.least y h)))
