-- Laws of ticks and of routers that are not late.
--     untimed_clock        without a tick the clock stands still
--     ticks_clock          and by so many ticks it goes on by so many, as far as it can
--     timely_last          what is supposed after every call of a list holds after the last one
--     free_empty           while the clock stands at 0, a router that need not wait waits for none
--     free_heard           and where no router is late, those that it waited for at first are done
-- The last two are why a due time may take the place of messages. A router that waits for w ranks above w, so its due
-- time is a step time after that of w at the earliest, if both learn at the same time. It can be S less where w learns
-- S later, and w can need F more: F + S is less than a step time.
use Rattle.std.specs.Prelude.{ℕ, zero, suc, ◌+◌, ◌≤◌, ◌<◌, ◌≡◌, refl, true, false, ◌≢◌, List, [], ◌∷◌, eqb, get_or}
use Rattle.std.proofs.Common.{ap, ◌∙◌, ⊎_elim, mul-le-mul_right, suc-mul, arith}
use Rattle.std.proofs.lemmas.Bool.{eqb-false}
use Rattle.area.specs.Limits.{last_time}
use Rattle.area.proofs.TestLaws.{or_false}
use Rattle.sets.specs.Sets.{bit}
use Rattle.sets.proofs.SetLaws.{member_some, no_members}
use Rattle.plan.specs.declared.Record.{Record}
use Rattle.machine.specs.Answers.{Outcome}
use Rattle.machine.specs.Machine.{idle, done, tick_kind, state_of, waiting_of, rank_of, with_clock, is_record}
use Rattle.machine.specs.Run.{Call, step, run, has_tick, ticks}
use Rattle.machine.specs.Timely.{Timely, AfterEach}
use Rattle.machine.proofs.StepLaws.{waits_none, time_come, Free}
use Rattle.machine.proofs.MoveLaws.{moves}
use Rattle.machine.proofs.MoveLaws.{Move, stays, learned, released, wrote, finished, delivered, ticked}
use Rattle.machine.proofs.RunLaws.{Kept}
use Rattle.machine.proofs.HeldLaws.{Held}
use Rattle.machine.proofs.OkLaws.{ticks_on}
use Rattle.machine.proofs.OrderedLaws.{Ordered}

-- ---- the clock
still : {r : Record} {kind a b : ℕ} {o : Outcome} → Move r kind a b o → kind ≢ tick_kind → o.next.clock ≡ r.clock
still (stays e f) g = ap (λ (x : Record). x.clock) e
still (learned k at e) g = rw e refl
still (released k at held e) g = rw e refl
still (wrote k at t e) g = rw e refl
still (finished k at t e) g = rw e refl
still (delivered k at t e) g = rw e refl
still (ticked k on e) g = absurd (g k)

pub untimed_clock : (r : Record) (calls : List Call) → has_tick calls ≡ false → (run r calls).clock ≡ r.clock
unfolding run has_tick
untimed_clock r [] h = refl
untimed_clock r (c ∷ cs) h =
    let b = or_false (eqb c.kind tick_kind) (has_tick cs) h in
    untimed_clock (step r c).next cs b.1
    ∙ still (moves r c.kind c.a c.b) (eqb-false c.kind tick_kind b.0)

pub ticks_clock :
    (r : Record) (count : ℕ)
    → is_record r ≡ true
    → r.clock + count ≤ last_time
    → run r (ticks count) ≡ with_clock r (r.clock + count)
unfolding run
ticks_clock r zero good h = rw (let x : r.clock + 0 ≡ r.clock = omega arith in x) refl
ticks_clock r (suc count) good h =
    ap (λ (o : Outcome). run o.next (ticks count)) (ticks_on r good (λ q. omega arith))
    ∙ ticks_clock (with_clock r (r.clock + 1)) count good (omega arith)
    ∙ ap (with_clock r) (let x : r.clock + 1 + count ≡ r.clock + suc count = omega arith in x)

-- ---- a list in which no router is late
pub timely_last :
    (S F : ℕ) (r : Record) (c : Call) (cs : List Call)
    → AfterEach S F r (c ∷ cs)
    → Timely S F (run r (c ∷ cs))
unfolding run
timely_last S F r c [] t = t.0
timely_last S F r c (d ∷ cs) t = timely_last S F (step r c).next d cs t.1

-- ---- a router that need not wait
module _ {first now : Record} (o : Ordered first) (held : Held first now) (steps : first.step_time ≢ 0) where
  same_rank : (x : ℕ) → rank_of now x ≡ rank_of first x
  same_rank x = ap (λ (t : List ℕ). get_or t x 0) held.ranks

  pub free_empty : now.clock ≡ 0 → (x : ℕ) → x < first.n → Free now x → waiting_of now x ≡ 0
  free_empty stands x h (waits_none z) = z
  free_empty stands x h (time_come late) = no_members (waiting_of now x) never
    where
      -- whom it waits for ranks lower, so its due time is at least a step time
      never : (w : ℕ) → bit (waiting_of now x) w ≡ true → ⊥
      never w t =
          let below = o.below x w h (held.waits x w t) in
          let some : 1 ≤ rank_of now x = omega (arith, same_rank x) in
          let product = mul-le-mul_right now.step_time some in
          omega (arith, held.step)

  module _ (kept : Kept first now) where
    -- x waits for none any more
    heard : (x w : ℕ) → x < first.n → bit (waiting_of first x) w ≡ true → waiting_of now x ≡ 0 → state_of now w ≡ done
    heard x w h e z =
        ⊎_elim (λ b. absurd (member_some (waiting_of now x) w b z)) (λ q. q)
        (kept.waits x w (omega (arith, o.inside x w h e, o.most)) e)

    pub free_heard :
        (S F : ℕ) → F + S < first.step_time → Timely S F now
        → (x w : ℕ) → x < first.n → bit (waiting_of first x) w ≡ true → state_of now x ≢ idle → Free now x
        → state_of now w ≡ done
    free_heard S F small t x w h e f (waits_none z) = heard x w h e z
    free_heard S F small t x w h e f (time_come late) =
        let x-in : x < now.n = omega (arith, held.count) in
        let w-in : w < now.n = omega (arith, held.count, o.inside x w h e) in
        let below : suc (rank_of now w) ≤ rank_of now x = omega (arith, o.below x w h e, same_rank x, same_rank w) in
        let product = mul-le-mul_right now.step_time below in
        let next = suc-mul (rank_of now w) now.step_time in
        let step = held.step in
        let awake = t.awake w x w-in x-in f (omega arith) in
        let near = t.together w x w-in x-in awake f in
        t.prompt w w-in awake (omega arith)

    pub stands_heard :
        now.clock ≡ 0 → (x w : ℕ) → x < first.n → bit (waiting_of first x) w ≡ true → Free now x
        → state_of now w ≡ done
    stands_heard stands x w h e free = heard x w h e (free_empty stands x h free)
