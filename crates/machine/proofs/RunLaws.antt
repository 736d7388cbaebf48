-- What every list of calls keeps. A call sets one entry of one table, or the clock (MoveLaws.antt), so each line of
-- `Kept` is shown for four changes: of a state, of a written set, of a waiting set, of the times. Lists of calls follow
-- by induction.
--     Start, fresh_start       a record before the first call, and that the fresh record is one
--     Kept, run_kept           what holds of each record that comes after it, whatever the calls
--     run_bit, run_written     the written sets hold exactly what was written
use Rattle.std.specs.Prelude.{ℕ, ◌+◌, ◌*◌, ◌^◌, ◌≤◌, ◌<◌, ◌≡◌, refl, Bool, true, false, ◌&&◌, ◌||◌, ◌≢◌, ◌⊎◌}
use Rattle.std.specs.Prelude.{eqb, length, get_or, set}
use Rattle.std.proofs.Math.Path.{sym, ap}
use Rattle.std.proofs.Common.{◌∙◌, subst, inl, inr, ⊎_elim, arith, eqb-true, eq-eqb, ne_eqb, pow_pos, length-set}
use Rattle.std.proofs.Common.{get_or-set_same, get_or-set_other}
use Rattle.std.proofs.Math.Bool.{or_assoc}
use mathlib.Core.List.{List, [], ◌∷◌}
use Rattle.std.proofs.Math.Decide.{ℕ_discrete}
use Rattle.area.specs.Limits.{width}
use Rattle.area.proofs.TestLaws.{and_false, and_one, or_none, same_test}
use Rattle.sets.specs.Sets.{bit, set_of, added, removed}
use Rattle.sets.proofs.SetLaws.{bit_zero, is_set_of, member_some, bit_added, bit_removed, subset_at, added_below}
use Rattle.plan.specs.declared.Record.{Record}
use Rattle.plan.specs.Plan.{fresh}
use Rattle.plan.proofs.FreshLaws.{fresh_size, fresh_state, fresh_written}
use Rattle.machine.specs.Answers.{Outcome}
use Rattle.machine.specs.Machine.{idle, holding, ongoing, done, write_kind}
use Rattle.machine.specs.Machine.{state_of, waiting_of, due_of, written_of, rank_of, due_time}
use Rattle.machine.specs.Machine.{with_state, with_waiting, with_written, with_times, with_clock}
use Rattle.machine.specs.Run.{Call, call, step, run, is_write, has_written}
use Rattle.machine.proofs.StepLaws.{waits_none, time_come, Free}
use Rattle.machine.proofs.MoveLaws.{Entry, entry, MayFinish, moves}
use Rattle.machine.proofs.MoveLaws.{Move, stays, learned, released, wrote, finished, delivered, ticked}

-- Every router is idle and has written nothing. The table of written sets has its size, so a set can be put into it.
pub record Start (first : Record) : Type 0 where
  pub state : (x : ℕ) → state_of first x ≡ idle
  pub written : (x : ℕ) → written_of first x ≡ 0
  pub size : length first.written ≡ width

-- The record `now` comes after `first`.
pub record Kept (first now : Record) : Type 0 where
  -- no call changes n, what is due at a router, or how many written sets there are
  pub count : now.n ≡ first.n
  pub due : now.due ≡ first.due
  pub written_size : length now.written ≡ length first.written
  -- a router that x waited for at first is done, or x still waits for it
  pub waits : (x w : ℕ) → w < width → bit (waiting_of first x) w ≡ true
      → (bit (waiting_of now x) w ≡ true) ⊎ (state_of now w ≡ done)
  -- a router that has written has learned; and it, and one that is done, waits for none, or its due time has come
  pub wrote_awake : (x d : ℕ) → bit (written_of now x) d ≡ true → state_of now x ≢ idle
  pub wrote_free : (x d : ℕ) → bit (written_of now x) d ≡ true → Free now x
  pub done_free : (x : ℕ) → state_of now x ≡ done → Free now x
  -- a router that is done has written all that is due
  pub done_wrote : (x d : ℕ) → d < width → state_of now x ≡ done → bit (due_of now x) d ≡ true
      → bit (written_of now x) d ≡ true
  -- what is written is a set of routers of the area
  pub below : (x : ℕ) → written_of now x < 2 ^ first.n

start_kept : (first : Record) → Start first → Kept first first
start_kept first s = record {
  count = refl;
  due = refl;
  written_size = refl;
  waits = λ x w h e. inl e;
  wrote_awake = λ x d e. absurd (member_some (written_of first x) d e (s.written x));
  wrote_free = λ x d e. absurd (member_some (written_of first x) d e (s.written x));
  done_free = λ x e. absurd (not_done x e);
  done_wrote = λ x d h e u. absurd (not_done x e);
  below = λ x. omega (arith, s.written x, pow_pos first.n);
}
  where
    not_done : (x : ℕ) → state_of first x ≢ done
    not_done x e = omega (arith, s.state x)

-- ---- one call: it changes one entry of one table, or the clock
module _ {first r : Record} (kept : Kept first r) where
  -- the state of a, which is not done, becomes s, which is not idle; where s is done, a need not wait and has written
  -- all that is due
  state_kept :
      (a s : ℕ)
      → state_of r a ≢ done
      → s ≢ idle
      → (s ≡ done → MayFinish r a)
      → Kept first (with_state r a s)
  state_kept a s f g ends = record {
    count = kept.count;
    due = kept.due;
    written_size = kept.written_size;
    waits = λ x w h e.
        ⊎_elim inl (λ q. inr (get_or-set_other r.states a w s 0 (λ p. f (ap (state_of r) (sym p) ∙ q)) ∙ q))
        (kept.waits x w h e);
    wrote_awake = λ x d e.
        ⊎_elim (λ p z. g (sym p.1 ∙ z)) (λ q z. kept.wrote_awake x d e (sym q ∙ z)) (entry r.states a s x);
    wrote_free = kept.wrote_free;
    done_free = λ x e.
        ⊎_elim
        (λ p. rw p.0 (ends (sym p.1 ∙ e)).free)
        (λ q. kept.done_free x (sym q ∙ e))
        (entry r.states a s x);
    done_wrote = λ x d h e.
        ⊎_elim (λ p. whole x d h p.0 (ends (sym p.1 ∙ e))) (λ q. kept.done_wrote x d h (sym q ∙ e))
        (entry r.states a s x);
    below = kept.below;
  }
    where
      whole :
          (x d : ℕ)
          → d < width
          → x ≡ a
          → MayFinish r a
          → bit (due_of r x) d ≡ true
          → bit (written_of r x) d ≡ true
      whole x d h e t = rw e (subset_at width (due_of r a) (written_of r a) t.whole d h)

  -- the written set of a, which need not wait and is ongoing, becomes s
  written_kept :
      (a s : ℕ)
      → Free r a
      → state_of r a ≡ ongoing
      → s < 2 ^ first.n
      → Kept first (with_written r a s)
  written_kept a s z f l = record {
    count = kept.count;
    due = kept.due;
    written_size = length-set r.written a s ∙ kept.written_size;
    waits = kept.waits;
    wrote_awake = λ x d e.
        ⊎_elim
        (λ p q. omega (arith, ap (state_of r) p.0))
        (λ q. kept.wrote_awake x d (ap (λ (t : ℕ). bit t d) (sym q) ∙ e))
        (entry r.written a s x);
    wrote_free = λ x d e.
        ⊎_elim
        (λ p. rw p.0 z)
        (λ q. kept.wrote_free x d (ap (λ (t : ℕ). bit t d) (sym q) ∙ e))
        (entry r.written a s x);
    done_free = kept.done_free;
    done_wrote = λ x d h e u.
        ⊎_elim
        (λ p. absurd (let y : ⊥ = omega (arith, ap (state_of r) p.0) in y))
        (λ q. ap (λ (t : ℕ). bit t d) q ∙ kept.done_wrote x d h e u)
        (entry r.written a s x);
    below = λ x.
        ⊎_elim (λ p. omega (arith, p.1)) (λ q. omega (arith, q, kept.below x)) (entry r.written a s x);
  }

  -- the waiting set of b, which has a member, becomes s, and those of its members that are not in s are done
  waiting_kept : (b s : ℕ)
      → waiting_of r b ≢ 0
      → ((w : ℕ) → w < width → bit (waiting_of r b) w ≡ true → (bit s w ≡ true) ⊎ (state_of r w ≡ done))
      → Kept first (with_waiting r b s)
  waiting_kept b s f told = record {
    count = kept.count;
    due = kept.due;
    written_size = kept.written_size;
    waits = λ x w h e. ⊎_elim (still x w h (entry r.waiting b s x)) inr (kept.waits x w h e);
    wrote_awake = kept.wrote_awake;
    wrote_free = λ x d e. free x (kept.wrote_free x d e);
    done_free = λ x e. free x (kept.done_free x e);
    done_wrote = kept.done_wrote;
    below = kept.below;
  }
    where
      free : (x : ℕ) → Free r x → Free (with_waiting r b s) x
      free x (waits_none z) =
          waits_none
          (⊎_elim (λ p. absurd (f (ap (waiting_of r) (sym p.0) ∙ z))) (λ q. q ∙ z) (entry r.waiting b s x))
      free x (time_come h) = time_come h

      still : (x w : ℕ) → w < width → Entry r.waiting b s x → bit (waiting_of r x) w ≡ true
          → (bit (get_or (set r.waiting b s) x 0) w ≡ true) ⊎ (state_of r w ≡ done)
      still x w h (inl p) e =
          ⊎_elim (λ t. inl (ap (λ (t : ℕ). bit t w) p.1 ∙ t)) inr
          (told w h (ap (λ (y : ℕ). bit (waiting_of r y) w) (sym p.0) ∙ e))
      still x w h (inr q) e = inl (ap (λ (t : ℕ). bit t w) q ∙ e)

  -- the times become others, by which each due time that has come has still come, but for that of an idle router
  times_kept :
      (clock : ℕ) (times : List ℕ)
      → ((x : ℕ) → state_of r x ≢ idle → due_time r x ≤ r.clock → due_time (with_times r clock times) x ≤ clock)
      → Kept first (with_times r clock times)
  times_kept clock times come = record {
    count = kept.count;
    due = kept.due;
    written_size = kept.written_size;
    waits = kept.waits;
    wrote_awake = kept.wrote_awake;
    wrote_free = λ x d e. free x (kept.wrote_awake x d e) (kept.wrote_free x d e);
    done_free = λ x e. free x (λ q. omega arith) (kept.done_free x e);
    done_wrote = kept.done_wrote;
    below = kept.below;
  }
    where
      free : (x : ℕ) → state_of r x ≢ idle → Free r x → Free (with_times r clock times) x
      free x f (waits_none z) = waits_none z
      free x f (time_come h) = time_come (come x f h)

  clock_kept : Kept first (with_clock r (r.clock + 1))
  clock_kept = times_kept (r.clock + 1) r.learn_times (λ x f h. omega arith)

  -- a, which is idle, notes the clock
  noted_kept : (a : ℕ) → state_of r a ≡ idle → Kept first (with_times r r.clock (set r.learn_times a r.clock))
  noted_kept a i = times_kept r.clock (set r.learn_times a r.clock) (λ x f h. as_before x f h)
    where
      as_before :
          (x : ℕ) → state_of r x ≢ idle → due_time r x ≤ r.clock
          → get_or (set r.learn_times a r.clock) x 0 + r.hold_time + rank_of r x * r.step_time ≤ r.clock
      as_before x f h =
          rw (get_or-set_other r.learn_times a x r.clock 0 (λ p. f (ap (state_of r) p ∙ i))) h

-- a member of s is one of s without a, or it is a
removed_cases : (w s a k : ℕ) → k < w → bit s k ≡ true → (bit (removed w s a) k ≡ true) ⊎ (k ≡ a)
removed_cases w s a k h e = elim (ℕ_discrete k a) [
  | yes q ↦ inr q
  | no f ↦ inl (bit_removed w s a k h ∙ rw (e, ne_eqb k a f))
]

move_kept :
    {first r : Record} {kind a b : ℕ} {o : Outcome}
    → Kept first r
    → Move r kind a b o
    → Kept first o.next
move_kept {first} kept (stays e f) = subst (Kept first) (sym e) kept
move_kept {a} kept (learned k at e) =
    rw e
    (state_kept (noted_kept kept a at.state) a holding (λ q. omega (arith, at.state)) (λ q. omega arith)
    (λ q. absurd (omega arith)))
move_kept {a} kept (released k at held e) =
    rw e (state_kept kept a ongoing (λ q. omega (arith, at.state)) (λ q. omega arith) (λ q. absurd (omega arith)))
move_kept {first} {r} {a} {b} kept (wrote k at t e) =
    let most : first.n ≤ width = omega (arith, kept.count, at.most) in
    let inside : b < first.n = omega (arith, kept.count, t.inside) in
    let l = added_below width first.n (written_of r a) b most (kept.below a) inside in
    rw e (written_kept kept a (added width (written_of r a) b) t.free at.state l)
move_kept {a} kept (finished k at t e) =
    rw e (state_kept kept a done (λ q. omega (arith, at.state)) (λ q. omega arith) (λ q. t))
move_kept {r} {a} {b} kept (delivered k at t e) =
    rw e (waiting_kept kept b (removed width (waiting_of r b) a) (member_some (waiting_of r b) a t.waits)
    (λ w h u. ⊎_elim inl (λ q. inr (ap (state_of r) q ∙ at.state)) (removed_cases width (waiting_of r b) a w h u)))
move_kept kept (ticked k on e) = rw e (clock_kept kept)

-- ---- a list of calls
calls_kept : {first r : Record} (calls : List Call) → Kept first r → Kept first (run r calls)
unfolding run
calls_kept [] kept = kept
calls_kept {r} (c ∷ cs) kept = calls_kept {r = (step r c).next} cs (move_kept kept (moves r c.kind c.a c.b))

pub run_kept : (first : Record) (calls : List Call) → Start first → Kept first (run first calls)
run_kept first calls s = calls_kept calls (start_kept first s)

-- ---- the written sets, destination by destination
eqb_swap : (x y : ℕ) → eqb x y ≡ eqb y x
eqb_swap x y =
    same_test (eqb x y) (eqb y x)
    (λ e. eq-eqb y x (sym (eqb-true x y e)))
    (λ e. eq-eqb x y (sym (eqb-true y x e)))

module _
    {r : Record} {kind a b : ℕ} {o : Outcome}
    (size : length r.written ≡ width) (x d : ℕ) (h : d < width)
  where
    -- such a write adds d to the written set of x, and no other call does
    move_written : Move r kind a b o
        → bit (written_of o.next x) d ≡ (bit (written_of r x) d || is_write (call kind a b) o x d)
    move_written (stays e f) =
        rw (e, f, and_false (eqb kind write_kind && (eqb a x && eqb b d)) false refl)
        (sym (or_none (bit (written_of r x) d)))
    move_written (learned k at e) = rw (k, e) (sym (or_none (bit (written_of r x) d)))
    move_written (released k at held e) = rw (k, e) (sym (or_none (bit (written_of r x) d)))
    move_written (wrote k at t e) = rw (k, e) (by_writer (ℕ_discrete x a))
      where
        by_writer : Dec (x ≡ a)
            → bit (get_or (set r.written a (added width (written_of r a) b)) x 0) d
            ≡ (bit (written_of r x) d || ((eqb a x && eqb b d) && true))
        by_writer (yes q) =
            let new = added width (written_of r a) b in
            let inside : a < length r.written = omega (arith, at.most, at.inside) in
            rw q
            (ap (λ (s : ℕ). bit s d) (get_or-set_same r.written a new 0 inside)
            ∙ bit_added width (written_of r a) b d h ∙ rw (eq-eqb a a refl, eqb_swap d b, and_one))
        by_writer (no f) =
            ap (λ (s : ℕ). bit s d) (get_or-set_other r.written a x (added width (written_of r a) b) 0 f)
            ∙ rw (ne_eqb a x (λ q. f (sym q))) (sym (or_none (bit (written_of r x) d)))
    move_written (finished k at t e) = rw (k, e) (sym (or_none (bit (written_of r x) d)))
    move_written (delivered k at t e) = rw (k, e) (sym (or_none (bit (written_of r x) d)))
    move_written (ticked k on e) = rw (k, e) (sym (or_none (bit (written_of r x) d)))

module _ {first : Record} (size : length first.written ≡ width) (x d : ℕ) (h : d < width) where
  calls_written : {r : Record} (calls : List Call)
      → Kept first r
      → bit (written_of (run r calls) x) d ≡ (bit (written_of r x) d || has_written r calls x d)
  unfolding run has_written
  calls_written {r} [] kept = sym (or_none (bit (written_of r x) d))
  calls_written {r} (c ∷ cs) kept =
      let m = moves r c.kind c.a c.b in
      calls_written {r = (step r c).next} cs (move_kept kept m)
      ∙ ap (λ (t : Bool). t || has_written (step r c).next cs x d)
      (move_written (kept.written_size ∙ size) x d h m)
      ∙ or_assoc (bit (written_of r x) d) (is_write c (step r c) x d) (has_written (step r c).next cs x d)

module _ (first : Record) (calls : List Call) (s : Start first) where
  pub run_bit : (x d : ℕ) → d < width → bit (written_of (run first calls) x) d ≡ has_written first calls x d
  run_bit x d h = calls_written s.size x d h calls (start_kept first s) ∙ rw (s.written x, bit_zero d)

  pub run_written : first.n ≤ width
      → (x : ℕ)
      → written_of (run first calls) x ≡ set_of first.n (has_written first calls x)
  run_written most x =
      is_set_of first.n (written_of (run first calls) x) (has_written first calls x)
      ((run_kept first calls s).below x) (λ d h. run_bit x d (omega arith))

-- ---- the fresh record
pub fresh_start : (n h s : ℕ) (m l : List ℕ) → Start (fresh n h s m l)
fresh_start n h s m l = record {
  state = fresh_state n h s m l;
  written = fresh_written n h s m l;
  size = fresh_size n h s m l;
}
