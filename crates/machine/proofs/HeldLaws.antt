-- What every list of calls keeps, besides `Kept` (RunLaws.antt): sizes, what no call changes, that waiting sets only
-- shrink, that written sets stay inside what is due, and that no learn time is past the clock. A call sets one entry of
-- one table, or the clock (MoveLaws.antt), so each line of `Held` is shown for four changes, of a state, of a written
-- set, of a waiting set and of the times; lists of calls follow by induction.
--     Held                                         what holds of each record that comes after the first
--     state_held, written_held, waiting_held       it is kept where one entry is set,
--     learned_held, clock_held                     where a router learns, and where the clock goes on
--     move_held, run_held                          by one call, and by every list of calls
--     fresh_held                                   and it holds of the fresh record
use Rattle.std.specs.Prelude.{ℕ, ◌+◌, ◌≤◌, ◌≡◌, refl, true, List, [], ◌∷◌, length, get_or, set}
use Rattle.std.proofs.Common.{sym, ap, ◌∙◌, subst, inl, inr, ⊎_elim, arith, length-set}
use Rattle.area.specs.Limits.{width}
use Rattle.sets.specs.Sets.{bit, added, removed}
use Rattle.sets.proofs.SetLaws.{member_some, added_cases, removed_still}
use Rattle.plan.specs.declared.Record.{Record}
use Rattle.plan.specs.Plan.{fresh}
use Rattle.plan.proofs.FreshLaws.{fresh_size, fresh_states_size, fresh_waiting_size, fresh_state, fresh_written}
use Rattle.plan.proofs.FreshLaws.{fresh_learned}
use Rattle.machine.specs.Answers.{Outcome}
use Rattle.machine.specs.Machine.{holding, ongoing, done}
use Rattle.machine.specs.Machine.{state_of, waiting_of, due_of, written_of, learn_time}
use Rattle.machine.specs.Machine.{with_state, with_waiting, with_written, with_times, with_learned, with_clock}
use Rattle.machine.specs.Run.{Call, step, run}
use Rattle.machine.proofs.MoveLaws.{Entry, entry, moves}
use Rattle.machine.proofs.MoveLaws.{Move, stays, learned, released, wrote, finished, delivered, ticked}

-- The record `now` comes after `first`.
pub record Held (first now : Record) : Type 0 where
  -- there is an entry for each router that an area can have, so each can be set
  pub states_size : length now.states ≡ width
  pub waiting_size : length now.waiting ≡ width
  pub written_size : length now.written ≡ width
  -- no call changes n, ranks, whom a router tells, what is due, or the times of a plan
  pub count : now.n ≡ first.n
  pub ranks : now.ranks ≡ first.ranks
  pub telling : now.telling ≡ first.telling
  pub due : now.due ≡ first.due
  pub hold : now.hold_time ≡ first.hold_time
  pub step : now.step_time ≡ first.step_time
  -- every state is one of the four
  pub known : (x : ℕ) → state_of now x ≤ done
  -- a router waits for none but those that it waited for at first
  pub waits : (x w : ℕ) → bit (waiting_of now x) w ≡ true → bit (waiting_of first x) w ≡ true
  -- and has written nothing but what is due
  pub wrote : (x d : ℕ) → bit (written_of now x) d ≡ true → bit (due_of now x) d ≡ true
  -- no router has learned later than now
  pub past : (x : ℕ) → learn_time now x ≤ now.clock

-- ---- one call: it changes one entry of one table, or the clock
module _ {first r : Record} (k : Held first r) where
  pub state_held : (a s : ℕ) → s ≤ done → Held first (with_state r a s)
  state_held a s h = record {
    states_size = length-set r.states a s ∙ k.states_size;
    waiting_size = k.waiting_size;
    written_size = k.written_size;
    count = k.count;
    ranks = k.ranks;
    telling = k.telling;
    due = k.due;
    hold = k.hold;
    step = k.step;
    known = λ x. ⊎_elim (λ p. omega (arith, p.1)) (λ q. omega (arith, q, k.known x)) (entry r.states a s x);
    waits = k.waits;
    wrote = k.wrote;
    past = k.past;
  }

  pub written_held :
      (a b : ℕ)
      → bit (due_of r a) b ≡ true
      → Held first (with_written r a (added width (written_of r a) b))
  written_held a b e = record {
    states_size = k.states_size;
    waiting_size = k.waiting_size;
    written_size = length-set r.written a (added width (written_of r a) b) ∙ k.written_size;
    count = k.count;
    ranks = k.ranks;
    telling = k.telling;
    due = k.due;
    hold = k.hold;
    step = k.step;
    known = k.known;
    waits = k.waits;
    wrote = λ x d. by_entry x d (entry r.written a (added width (written_of r a) b) x);
    past = k.past;
  }
    where
      -- a has written what it had, and b, which is due
      by_writer : (d : ℕ) → bit (added width (written_of r a) b) d ≡ true → bit (due_of r a) d ≡ true
      by_writer d t =
          ⊎_elim (k.wrote a d) (λ q. ap (bit (due_of r a)) q ∙ e) (added_cases width (written_of r a) b d t)

      by_entry :
          (x d : ℕ)
          → Entry r.written a (added width (written_of r a) b) x
          → bit (written_of (with_written r a (added width (written_of r a) b)) x) d ≡ true
          → bit (due_of r x) d ≡ true
      by_entry x d (inl p) t =
          ap (λ (y : ℕ). bit (due_of r y) d) p.0
          ∙ by_writer d (ap (λ (s : ℕ). bit s d) (sym p.1) ∙ t)
      by_entry x d (inr q) t = k.wrote x d (ap (λ (s : ℕ). bit s d) (sym q) ∙ t)

  pub waiting_held : (a b : ℕ) → Held first (with_waiting r b (removed width (waiting_of r b) a))
  waiting_held a b = record {
    states_size = k.states_size;
    waiting_size = length-set r.waiting b (removed width (waiting_of r b) a) ∙ k.waiting_size;
    written_size = k.written_size;
    count = k.count;
    ranks = k.ranks;
    telling = k.telling;
    due = k.due;
    hold = k.hold;
    step = k.step;
    known = k.known;
    waits = λ x w. by_entry x w (entry r.waiting b (removed width (waiting_of r b) a) x);
    wrote = k.wrote;
    past = k.past;
  }
    where
      by_entry :
          (x w : ℕ)
          → Entry r.waiting b (removed width (waiting_of r b) a) x
          → bit (waiting_of (with_waiting r b (removed width (waiting_of r b) a)) x) w ≡ true
          → bit (waiting_of first x) w ≡ true
      by_entry x w (inl p) t =
          let was = removed_still width (waiting_of r b) a w (ap (λ (s : ℕ). bit s w) (sym p.1) ∙ t) in
          k.waits x w (ap (λ (y : ℕ). bit (waiting_of r y) w) p.0 ∙ was)
      by_entry x w (inr q) t = k.waits x w (ap (λ (s : ℕ). bit s w) (sym q) ∙ t)

  times_held :
      (clock : ℕ) (times : List ℕ)
      → ((x : ℕ) → get_or times x 0 ≤ clock)
      → Held first (with_times r clock times)
  times_held clock times h = record {
    states_size = k.states_size;
    waiting_size = k.waiting_size;
    written_size = k.written_size;
    count = k.count;
    ranks = k.ranks;
    telling = k.telling;
    due = k.due;
    hold = k.hold;
    step = k.step;
    known = k.known;
    waits = k.waits;
    wrote = k.wrote;
    past = h;
  }

  pub clock_held : Held first (with_clock r (r.clock + 1))
  clock_held = times_held (r.clock + 1) r.learn_times (λ x. omega (arith, k.past x))

pub learned_held : {first r : Record} → Held first r → (a : ℕ) → Held first (with_learned r a holding)
learned_held {r = r} k a =
    times_held (state_held k a holding (omega arith)) r.clock (set r.learn_times a r.clock)
    (λ x. ⊎_elim (λ p. omega (arith, p.1)) (λ q. omega (arith, q, k.past x))
    (entry r.learn_times a r.clock x))

pub move_held :
    {first r : Record} {kind a b : ℕ} {o : Outcome}
    → Held first r
    → Move r kind a b o
    → Held first o.next
move_held {first} k (stays e f) = subst (Held first) (sym e) k
move_held {a} k (learned q at e) = rw e (learned_held k a)
move_held {a} k (released q at held e) = rw e (state_held k a ongoing (omega arith))
move_held {a} {b} k (wrote q at t e) = rw e (written_held k a b t.due)
move_held {a} k (finished q at t e) = rw e (state_held k a done (omega arith))
move_held {a} {b} k (delivered q at t e) = rw e (waiting_held k a b)
move_held k (ticked q on e) = rw e (clock_held k)

-- ---- a list of calls
pub run_held : {first r : Record} (calls : List Call) → Held first r → Held first (run r calls)
unfolding run
run_held [] k = k
run_held {r} (c ∷ cs) k = run_held {r = (step r c).next} cs (move_held k (moves r c.kind c.a c.b))

-- ---- the fresh record
pub fresh_held : (n h s : ℕ) (m l : List ℕ) → Held (fresh n h s m l) (fresh n h s m l)
fresh_held n h s m l = record {
  states_size = fresh_states_size n h s m l;
  waiting_size = fresh_waiting_size n h s m l;
  written_size = fresh_size n h s m l;
  count = refl;
  ranks = refl;
  telling = refl;
  due = refl;
  hold = refl;
  step = refl;
  known = λ x. omega (arith, fresh_state n h s m l x);
  waits = λ x w e. e;
  wrote = λ x d e. absurd (member_some (written_of (fresh n h s m l) x) d e (fresh_written n h s m l x));
  past = λ x. omega (arith, fresh_learned n h s m l x);
}
