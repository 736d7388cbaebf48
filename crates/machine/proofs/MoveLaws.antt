-- What one call does to a record. `step_of` is a ladder of tests: each refusal ends it with the record as it was, and
-- behind the last test one entry of one table is set, or the clock. The proofs go down the ladder and gather what the
-- tests said.
--     Entry, entry     the entries of a table of which one is set
--     Router, MayWrite, MayFinish, MayDeliver       what was tested when a call changes the record
--     Move, moves      the ways in which a call can end, and that every call ends in one of them
use Rattle.std.specs.Prelude.{ℕ, ◌+◌, ◌≤◌, ◌<◌, ◌≡◌, Bool, not, ◌||◌, ◌≢◌, ◌⊎◌, List, length, get_or, set}
use Rattle.std.proofs.Math.Path.{refl}
use Rattle.std.proofs.Common.{sym, ap, ◌∙◌, subst, ⊎_elim, get_or-set_same, get_or-set_other}
use Rattle.std.proofs.Math.Bool.{true, false}
use Rattle.std.proofs.Math.Logic.{inl, inr}
use Rattle.std.proofs.Math.Decide.{dec_lt, ℕ_discrete}
use native.Mathlib.Omega.{arith}
use borrow.Author.Tests.{ltb-true, ltb-false, eqb-true, eqb-false, not-false, eq-eqb}
use Rattle.std.proofs.Math.Dec.{eqb, ltb}
use Rattle.std.proofs.Math.Seq.{set_out}
use Rattle.area.specs.Limits.{width, last_time}
use Rattle.area.specs.Tests.{pick}
use Rattle.area.proofs.TestLaws.{both_true, or_cases, or_left, or_right, or_false}
use Rattle.area.specs.Refusals.{unknown_router, bad_record, unknown_kind, wrong_state, still_waiting}
use Rattle.area.specs.Refusals.{not_due, unwritten, not_done, not_told, too_early, clock_end}
use Rattle.sets.specs.Sets.{bit, added, removed, subset}
use Rattle.plan.specs.declared.Record.{Record}
use Rattle.machine.specs.Answers.{ok, refused, Outcome, gives}
use Rattle.machine.specs.Machine.{idle, holding, ongoing, done}
use Rattle.machine.specs.Machine.{learn_kind, release_kind, write_kind, finish_kind, deliver_kind, tick_kind}
use Rattle.machine.specs.Machine.{state_of, waiting_of, telling_of, due_of, written_of, held_until, due_time}
use Rattle.machine.specs.Machine.{with_state, with_waiting, with_written, with_learned, with_clock}
use Rattle.machine.specs.Machine.{learn, release, ready, write, finish, listens, deliver, tick}
use Rattle.machine.specs.Machine.{is_record, is_kind, reads_a, reads_b, are_routers, call_of, step_of}
use Rattle.machine.specs.Run.{is_ok}
use Rattle.machine.proofs.StepLaws.{sound_most, kind_range, reads_first, call_tick, Free, waits_on, waits_free}

-- Entry x of the table t when its entry a is set to v: x is a, and the entry is v; or it is as it was.
abbrev pub Entry : (t : List ℕ) (a v x : ℕ) → Type 0
Entry t a v x = ((x ≡ a) × (get_or (set t a v) x 0 ≡ v)) ⊎ (get_or (set t a v) x 0 ≡ get_or t x 0)

pub entry : (t : List ℕ) (a v x : ℕ) → Entry t a v x
entry t a v x = go (ℕ_discrete x a) (dec_lt a (length t))
  where
    go : Dec (x ≡ a) → Dec (a < length t) → Entry t a v x
    go (no f) b = inr (get_or-set_other t a x v 0 f)
    go (yes e) (yes h) = inl (e, ap (λ (i : ℕ). get_or (set t a v) i 0) e ∙ get_or-set_same t a v 0 h)
    go (yes e) (no h) = inr (ap (λ (s : List ℕ). get_or s x 0) (set_out t a v (omega arith)))

-- ---- what was tested when a call changes the record
-- a is a router of the area, in state s
pub record Router (r : Record) (a s : ℕ) : Type 0 where
  pub most : r.n ≤ width
  pub inside : a < r.n
  pub state : state_of r a ≡ s

-- a may write destination b
pub record MayWrite (r : Record) (a b : ℕ) : Type 0 where
  pub inside : b < r.n
  pub free : Free r a
  pub due : bit (due_of r a) b ≡ true
  pub new : bit (written_of r a) b ≡ false

-- a may finish
pub record MayFinish (r : Record) (a : ℕ) : Type 0 where
  pub free : Free r a
  pub whole : subset width (due_of r a) (written_of r a) ≡ true

-- the message of a may change b: a tells b, and b listens for it
pub record MayDeliver (r : Record) (a b : ℕ) : Type 0 where
  pub inside : b < r.n
  pub told : bit (telling_of r a) b ≡ true
  pub state : (state_of r b ≡ holding) ⊎ (state_of r b ≡ ongoing)
  pub waits : bit (waiting_of r b) a ≡ true

-- ---- the call (kind, a, b) on the record r has the outcome o
pub data Move (r : Record) (kind a b : ℕ) (o : Outcome) : Type 0 where
  -- refused or ignored
  stays : o.next ≡ r → is_ok o.reply ≡ false → Move r kind a b o
  learned : kind ≡ learn_kind → Router r a idle → o ≡ gives (with_learned r a holding) ok → Move r kind a b o
  released :
      kind ≡ release_kind
      → Router r a holding
      → held_until r a ≤ r.clock
      → o ≡ gives (with_state r a ongoing) ok
      → Move r kind a b o
  wrote : kind ≡ write_kind → Router r a ongoing → MayWrite r a b
      → o ≡ gives (with_written r a (added width (written_of r a) b)) ok → Move r kind a b o
  finished : kind ≡ finish_kind → Router r a ongoing → MayFinish r a
      → o ≡ gives (with_state r a done) ok → Move r kind a b o
  delivered : kind ≡ deliver_kind → Router r a done → MayDeliver r a b
      → o ≡ gives (with_waiting r b (removed width (waiting_of r b) a)) ok → Move r kind a b o
  ticked : kind ≡ tick_kind → r.clock ≢ last_time → o ≡ gives (with_clock r (r.clock + 1)) ok → Move r kind a b o

-- ---- what tests say
same : (x y : ℕ) → not (eqb x y) ≡ false → x ≡ y
same x y e = eqb-true x y (not-false (eqb x y) e)

module _ (r : Record) (kind a b : ℕ) where
  -- how the call ends, by the test that chooses between two outcomes
  chosen : (t : Bool) {x y : Outcome}
      → (t ≡ true → Move r kind a b x)
      → (t ≡ false → Move r kind a b y)
      → Move r kind a b (pick t x y)
  chosen true f g = f refl
  chosen false f g = g refl

  -- the call is refused with k where the test holds
  unless : (t : Bool) (k : ℕ) {y : Outcome}
      → (t ≡ false → Move r kind a b y)
      → Move r kind a b (pick t (gives r (refused k)) y)
  unless t k g = chosen t (λ e. stays refl refl) g

  listening : listens (state_of r b) (waiting_of r b) a ≡ true
      → ((state_of r b ≡ holding) ⊎ (state_of r b ≡ ongoing)) × (bit (waiting_of r b) a ≡ true)
  unfolding listens
  listening e =
      let x = both_true (eqb (state_of r b) holding || eqb (state_of r b) ongoing) (bit (waiting_of r b) a) e in
      let y = or_cases (eqb (state_of r b) holding) (eqb (state_of r b) ongoing) x.0 in
      (⊎_elim (λ e. inl (eqb-true (state_of r b) holding e)) (λ e. inr (eqb-true (state_of r b) ongoing e)) y, x.1)

  tick_moves : kind ≡ tick_kind → Move r kind a b (tick r)
  unfolding tick
  tick_moves k =
      unless (eqb r.clock last_time) clock_end (λ t. ticked k (eqb-false r.clock last_time t) refl)

  -- ---- the five kinds that read a
  module _ (most : r.n ≤ width) (inside : a < r.n) where
    in_state : (s : ℕ) → not (eqb (state_of r a) s) ≡ false → Router r a s
    in_state s e = record { most = most; inside = inside; state = same (state_of r a) s e }

    learn_moves : kind ≡ learn_kind → Move r kind a b (learn r a)
    unfolding learn
    learn_moves k = unless (not (eqb (state_of r a) idle)) wrong_state (λ s. learned k (in_state idle s) refl)

    release_moves : kind ≡ release_kind → Move r kind a b (release r a)
    unfolding release
    release_moves k =
        unless (not (eqb (state_of r a) holding)) wrong_state
        (λ s. unless (ltb r.clock (held_until r a)) too_early
        (λ t. released k (in_state holding s) (ltb-false r.clock (held_until r a) t) refl))

    write_moves : kind ≡ write_kind → b < r.n → Move r kind a b (write r a b)
    unfolding write ready
    write_moves k h =
        unless (not (eqb (state_of r a) ongoing)) wrong_state
        (λ s. unless (waits_on r a) still_waiting
        (λ w. unless (not (bit (due_of r a) b) || bit (written_of r a) b) not_due
        (λ d. let x = or_false (not (bit (due_of r a) b)) (bit (written_of r a) b) d in
        let writes : MayWrite r a b = record {
          inside = h;
          free = waits_free (waiting_of r a) r.clock (due_time r a) w;
          due = not-false (bit (due_of r a) b) x.0;
          new = x.1;
        } in
        wrote k (in_state ongoing s) writes refl)))

    finish_moves : kind ≡ finish_kind → Move r kind a b (finish r a)
    unfolding finish ready
    finish_moves k =
        unless (not (eqb (state_of r a) ongoing)) wrong_state
        (λ s. unless (waits_on r a) still_waiting
        (λ w. unless (not (subset width (due_of r a) (written_of r a))) unwritten
        (λ d. let finishes : MayFinish r a = record {
          free = waits_free (waiting_of r a) r.clock (due_time r a) w;
          whole = not-false (subset width (due_of r a) (written_of r a)) d;
        } in
        finished k (in_state ongoing s) finishes refl)))

    deliver_moves : kind ≡ deliver_kind → b < r.n → Move r kind a b (deliver r a b)
    unfolding deliver
    deliver_moves k h =
        unless (not (eqb (state_of r a) done)) not_done
        (λ s. unless (not (bit (telling_of r a) b)) not_told
        (λ t. chosen (listens (state_of r b) (waiting_of r b) a)
        (λ e. let x = listening e in
        let delivers : MayDeliver r a b = record {
          inside = h;
          told = not-false (bit (telling_of r a) b) t;
          state = x.0;
          waits = x.1;
        } in
        delivered k (in_state done s) delivers refl)
        (λ e. stays refl refl)))

    call_moves :
        is_kind kind ≡ true
        → kind ≢ tick_kind
        → (reads_b kind ≡ true → b < r.n)
        → Move r kind a b (call_of r kind a b)
    unfolding call_of reads_b
    call_moves known not-tick reads =
        let is-write = eqb kind write_kind in
        let is-deliver = eqb kind deliver_kind in
        chosen (eqb kind learn_kind) (λ e. learn_moves (eqb-true kind learn_kind e))
        (λ n1. chosen (eqb kind release_kind) (λ e. release_moves (eqb-true kind release_kind e))
        (λ n2. chosen is-write (λ e. write_moves (eqb-true kind write_kind e) (reads (or_left is-write is-deliver e)))
        (λ n3. chosen (eqb kind finish_kind) (λ e. finish_moves (eqb-true kind finish_kind e))
        (λ n4. let k = fifth n1 n2 n3 n4 in
        rw (eq-eqb kind deliver_kind k)
        (deliver_moves k (reads (or_right is-write is-deliver (eq-eqb kind deliver_kind k))))))))
      where
        fifth : eqb kind learn_kind ≡ false
            → eqb kind release_kind ≡ false
            → eqb kind write_kind ≡ false
            → eqb kind finish_kind ≡ false
            → kind ≡ deliver_kind
        fifth n1 n2 n3 n4 =
            let x = kind_range kind known in
            let f1 = eqb-false kind learn_kind n1 in
            let f2 = eqb-false kind release_kind n2 in
            let f3 = eqb-false kind write_kind n3 in
            let f4 = eqb-false kind finish_kind n4 in
            omega arith

  -- a tick needs no router
  ticks : kind ≡ tick_kind → Move r kind a b (call_of r kind a b)
  ticks k = subst (Move r kind a b) (sym (ap (λ (j : ℕ). call_of r j a b) k ∙ call_tick r a b)) (tick_moves k)

  pub moves : Move r kind a b (step_of r kind a b)
  unfolding step_of are_routers
  moves =
      unless (not (is_record r)) bad_record
      (λ good. unless (not (is_kind kind)) unknown_kind
      (λ known. unless (not (are_routers r kind a b)) unknown_router
      (λ routers.
      let are = not-false (are_routers r kind a b) routers in
      let y = both_true (not (reads_a kind) || ltb a r.n) (not (reads_b kind) || ltb b r.n) are in
      let most = sound_most r.n r.states (not-false (is_record r) good) in
      elim (ℕ_discrete kind tick_kind) [
        | yes k ↦ ticks k
        | no f ↦
            call_moves most (first (reads_first kind f) y.0) (not-false (is_kind kind) known) f
            (λ e. second e y.1)
      ])))
    where
      first : reads_a kind ≡ true → (not (reads_a kind) || ltb a r.n) ≡ true → a < r.n
      first e t = ltb-true a r.n (rw e at t)

      second : reads_b kind ≡ true → (not (reads_b kind) || ltb b r.n) ≡ true → b < r.n
      second e t = ltb-true b r.n (rw e at t)
