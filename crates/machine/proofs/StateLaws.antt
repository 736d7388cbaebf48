-- Step goes by `next_state`, for the four kinds of calls that are events of a router.
--     next_at, next_none, next_to      from which state an event leads on, and where to
--     learn_none .. finish_to          the calls, by the next state. For a release there is one too where it comes too
--                                      early
--     state_after                      after ok, the next state is the state of a in the record that is handed back
--     others_stay                      all other routers keep their states
--     none_23                          there is no next state exactly where the reply is 23
use Rattle.std.specs.Prelude.{ℕ, zero, suc, ◌≤◌, ◌<◌, ◌≡◌, refl, Bool, true, false, not, ◌||◌}
use Rattle.std.specs.Prelude.{◌≢◌, ◌↔◌, Option, Some, None, eqb, ltb, length}
use Rattle.std.proofs.Common.{sym, ap, ◌∙◌, eqb-true, eq-eqb, ne_eqb, get_or-set_same, get_or-set_other}
use Rattle.std.proofs.lemmas.Bool.{false≢true}
use native.Mathlib.Omega.{arith}
use Rattle.area.specs.Limits.{width}
use Rattle.area.specs.Tests.{pick}
use Rattle.area.specs.Refusals.{wrong_state, still_waiting, not_due, unwritten, too_early}
use Rattle.sets.specs.Sets.{bit, added, subset}
use Rattle.plan.specs.declared.Record.{Record}
use Rattle.machine.specs.declared.states.State.{State}
use Rattle.machine.specs.declared.states.State.TheVariants.{Idle, Holding, Ongoing, Done}
use Rattle.machine.specs.declared.states.Event.{Event}
use Rattle.machine.specs.declared.states.Event.TheVariants.{Learn, Release, Write, Finish}
use Rattle.machine.specs.Answers.{Reply, ok, ignored, refused, Outcome, gives}
use Rattle.machine.specs.Machine.{idle, holding, ongoing, done, state_of, due_of, written_of, held_until}
use Rattle.machine.specs.Machine.{learn_kind, release_kind, write_kind, finish_kind, deliver_kind}
use Rattle.machine.specs.Machine.{with_state, with_written, with_learned, learn, release, ready, write, finish}
use Rattle.machine.specs.Machine.{is_record, is_kind, are_routers, call_of, step_of}
use Rattle.machine.specs.Run.{is_ok}
use Rattle.machine.specs.States.{state_number, named, kind_of, next_state, next_of, Goes}
use Rattle.machine.proofs.StepLaws.{kind_known, step_call, call_learn, call_release, call_write, call_finish}
use Rattle.machine.proofs.StepLaws.{learn_state, learn_ok, release_state, release_early, release_ok}
use Rattle.machine.proofs.StepLaws.{write_state, finish_state, waits_on}
use Rattle.machine.proofs.MoveLaws.{Router, Move, stays, learned, released, wrote, finished, delivered, ticked}
use Rattle.machine.proofs.MoveLaws.{moves}
use Rattle.machine.specs.States.{enters}

-- ---- from which state an event leads on, and where to
abbrev leaves : Event → State
leaves Learn = Idle
leaves Release = Holding
leaves Write = Ongoing
leaves Finish = Ongoing

-- a number that is none of idle, holding and ongoing
above :
    (x : ℕ)
    → (eqb (suc (suc (suc x))) idle ≡ false)
    × (eqb (suc (suc (suc x))) holding ≡ false)
    × (eqb (suc (suc (suc x))) ongoing ≡ false)
above x = (differs idle (omega arith), differs holding (omega arith), differs ongoing (omega arith))
  where
    differs : (k : ℕ) → k ≤ ongoing → eqb (suc (suc (suc x))) k ≡ false
    differs k h = ne_eqb (suc (suc (suc x))) k (λ q. omega arith)

-- an event leads on from one state only
next_is :
    (x : ℕ) (e : Event)
    → next_state (named x) e
    ≡ pick (eqb x (state_number (leaves e))) (Some (enters e)) None
next_is zero Learn = refl
next_is zero Release = refl
next_is zero Write = refl
next_is zero Finish = refl
next_is (suc zero) Learn = refl
next_is (suc zero) Release = refl
next_is (suc zero) Write = refl
next_is (suc zero) Finish = refl
next_is (suc (suc zero)) Learn = refl
next_is (suc (suc zero)) Release = refl
next_is (suc (suc zero)) Write = refl
next_is (suc (suc zero)) Finish = refl
next_is (suc (suc (suc x))) Learn = let f = above x in rw (f.0, f.1, f.2) refl
next_is (suc (suc (suc x))) Release = let f = above x in rw (f.0, f.1, f.2) refl
next_is (suc (suc (suc x))) Write = let f = above x in rw (f.0, f.1, f.2) refl
next_is (suc (suc (suc x))) Finish = let f = above x in rw (f.0, f.1, f.2) refl

-- what tells a next state from none, and from another one
abbrev place : Option State → ℕ
place (Some s) = suc (state_number s)
place None = 0

abbrev target : Option State → State
target (Some s) = s
target None = Done

module _ (x : ℕ) (e : Event) where
  next_at : x ≡ state_number (leaves e) → next_state (named x) e ≡ Some (enters e)
  next_at q = next_is x e ∙ ap (λ (t : Bool). pick t (Some (enters e)) None) (eq-eqb x (state_number (leaves e)) q)

  next_none : next_state (named x) e ≡ None → x ≢ state_number (leaves e)
  next_none h q = omega (arith, ap place (sym h ∙ next_at q))

  next_to : (s : State) → next_state (named x) e ≡ Some s → (x ≡ state_number (leaves e)) × (s ≡ enters e)
  next_to s h = go (eqb x (state_number (leaves e))) refl (sym h ∙ next_is x e)
    where
      go : (t : Bool) → eqb x (state_number (leaves e)) ≡ t → Some s ≡ pick t (Some (enters e)) None
          → (x ≡ state_number (leaves e)) × (s ≡ enters e)
      go true t q = (eqb-true x (state_number (leaves e)) t, ap target q)
      go false t q = absurd (omega (arith, ap place q))

-- ---- the calls, by the next state
module _ (r : Record) (a : ℕ) where
  -- v is the number of the next state, and `put v` the record that has it
  stored :
      (e : Event) (put : ℕ → Record) (s : State) (v : ℕ) {o : Outcome}
      → next_of r a e ≡ Some s
      → v ≡ state_number s
      → o ≡ gives (put (state_number (enters e))) ok
      → o ≡ gives (put v) ok
  stored e put s v h is o =
      o ∙ ap (λ (v : ℕ). gives (put v) ok) (sym (is ∙ ap state_number (next_to (state_of r a) e s h).1))

  pub learn_none : next_of r a Learn ≡ None → learn r a ≡ gives r (refused wrong_state)
  learn_none h = learn_state r a (next_none (state_of r a) Learn h)

  pub learn_to :
      (s : State) (v : ℕ)
      → next_of r a Learn ≡ Some s
      → v ≡ state_number s
      → learn r a ≡ gives (with_learned r a v) ok
  learn_to s v h is = stored Learn (with_learned r a) s v h is (learn_ok r a (next_to (state_of r a) Learn s h).0)

  pub release_none : next_of r a Release ≡ None → release r a ≡ gives r (refused wrong_state)
  release_none h = release_state r a (next_none (state_of r a) Release h)

  pub release_soon :
      (s : State)
      → next_of r a Release ≡ Some s
      → r.clock < held_until r a
      → release r a ≡ gives r (refused too_early)
  release_soon s h = release_early r a (next_to (state_of r a) Release s h).0

  pub release_to :
      (s : State) (v : ℕ)
      → next_of r a Release ≡ Some s
      → v ≡ state_number s
      → held_until r a ≤ r.clock
      → release r a ≡ gives (with_state r a v) ok
  release_to s v h is held =
      stored Release (with_state r a) s v h is (release_ok r a (next_to (state_of r a) Release s h).0 held)

  pub write_none : (b : ℕ) → next_of r a Write ≡ None → write r a b ≡ gives r (refused wrong_state)
  write_none b h = write_state r a b (next_none (state_of r a) Write h)

  pub finish_none : next_of r a Finish ≡ None → finish r a ≡ gives r (refused wrong_state)
  finish_none h = finish_state r a (next_none (state_of r a) Finish h)

-- write and finish have tests behind that of the state; here it is x
pub write_at : (x : ℕ) (s : State) → next_state (named x) Write ≡ Some s → x ≡ ongoing
write_at x s h = (next_to x Write s h).0

pub finish_at : (x : ℕ) (s : State) → next_state (named x) Finish ≡ Some s → x ≡ ongoing
finish_at x s h = (next_to x Finish s h).0

pub finish_to : (x : ℕ) (s : State) → next_state (named x) Finish ≡ Some s → s ≡ Done
finish_to x s h = (next_to x Finish s h).1

-- ---- after ok
-- an event comes by one kind of call, and none by deliver or by a tick
abbrev event_of : ℕ → Event
event_of k = pick (eqb k learn_kind) Learn (pick (eqb k release_kind) Release (pick (eqb k write_kind) Write Finish))

event_back : (e : Event) → event_of (kind_of e) ≡ e
event_back Learn = refl
event_back Release = refl
event_back Write = refl
event_back Finish = refl

of_router : (e : Event) → kind_of e < deliver_kind
of_router Learn = omega arith
of_router Release = omega arith
of_router Write = omega arith
of_router Finish = omega arith

goes :
    (r : Record) (a : ℕ) (e f : Event) (next : Record)
    → kind_of e ≡ kind_of f
    → Router r a (state_number (leaves f))
    → state_of next a ≡ state_number (enters f)
    → Goes r a e next
goes r a e f next k at s =
    let same : e ≡ f = sym (event_back e) ∙ ap event_of k ∙ event_back f in
    (enters f, ap (next_of r a) same ∙ next_at (state_of r a) f at.state, s)

-- the table of states has its size, so a state can be put into it
pub state_after :
    (r : Record) (event : Event) (a b : ℕ)
    → length r.states ≡ width
    → (step_of r (kind_of event) a b).reply ≡ ok
    → Goes r a event (step_of r (kind_of event) a b).next
state_after r e a b size said = go (moves r (kind_of e) a b)
  where
    put : {s : ℕ} → Router r a s → (v : ℕ) → state_of (with_state r a v) a ≡ v
    put at v = get_or-set_same r.states a v 0 (omega (arith, at.inside, at.most, size))

    go : Move r (kind_of e) a b (step_of r (kind_of e) a b) → Goes r a e (step_of r (kind_of e) a b).next
    go (stays n f) = absurd (false≢true (sym f ∙ ap is_ok said))
    go (learned k at o) = rw o (goes r a e Learn (with_learned r a holding) k at (put at holding))
    go (released k at held o) = rw o (goes r a e Release (with_state r a ongoing) k at (put at ongoing))
    go (wrote k at may o) =
        rw o (goes r a e Write (with_written r a (added width (written_of r a) b)) k at at.state)
    go (finished k at may o) = rw o (goes r a e Finish (with_state r a done) k at (put at done))
    go (delivered k at may o) = absurd (let x : ⊥ = omega (arith, of_router e) in x)
    go (ticked k on o) = absurd (let x : ⊥ = omega (arith, of_router e) in x)

-- every other router has the state that it had, whatever the call and its reply
pub others_stay : (r : Record) (kind a b x : ℕ) → x ≢ a → state_of (step_of r kind a b).next x ≡ state_of r x
others_stay r kind a b x f = go (moves r kind a b)
  where
    put : {o : Outcome} (v : ℕ) → o ≡ gives (with_state r a v) ok → state_of o.next x ≡ state_of r x
    put v e = ap (λ (o : Outcome). state_of o.next x) e ∙ get_or-set_other r.states a x v 0 f

    by_learning : {o : Outcome} → o ≡ gives (with_learned r a holding) ok → state_of o.next x ≡ state_of r x
    by_learning e = ap (λ (o : Outcome). state_of o.next x) e ∙ get_or-set_other r.states a x holding 0 f

    go : {o : Outcome} → Move r kind a b o → state_of o.next x ≡ state_of r x
    go (stays n g) = ap (λ (r : Record). state_of r x) n
    go (learned k at e) = by_learning e
    go (released k at held e) = put ongoing e
    go (wrote k at may e) = ap (λ (o : Outcome). state_of o.next x) e
    go (finished k at may e) = put done e
    go (delivered k at may e) = ap (λ (o : Outcome). state_of o.next x) e
    go (ticked k on e) = ap (λ (o : Outcome). state_of o.next x) e

-- ---- none exactly where the reply is 23
abbrev reply_number : Reply → ℕ
reply_number ok = 0
reply_number ignored = 0
reply_number (refused k) = k

-- an outcome that is not refused, or refused for another reason
record Other (o : Outcome) : Type 0 where
  not_23 : reply_number o.reply ≢ wrong_state

other : (t : Bool) {x y : Outcome} → Other x → Other y → Other (pick t x y)
other true f g = f
other false f g = g

module _ (r : Record) (a b : ℕ) where
  -- none of the tests behind that of the state gives 23
  refused_other : (k : ℕ) → k ≢ wrong_state → Other (gives r (refused k))
  refused_other k f = record { not_23 = f }

  release_on : state_of r a ≡ holding → Other (release r a)
  unfolding release
  release_on e =
      rw (eq-eqb (state_of r a) holding e)
      (other (ltb r.clock (held_until r a)) (refused_other too_early (λ q. omega arith))
      (record { not_23 = λ q. omega arith }))

  write_on : state_of r a ≡ ongoing → Other (write r a b)
  unfolding write ready
  write_on e =
      rw (eq-eqb (state_of r a) ongoing e)
      (other (waits_on r a) (refused_other still_waiting (λ q. omega arith))
      (other (not (bit (due_of r a) b) || bit (written_of r a) b) (refused_other not_due (λ q. omega arith))
      (record { not_23 = λ q. omega arith })))

  finish_on : state_of r a ≡ ongoing → Other (finish r a)
  unfolding finish ready
  finish_on e =
      rw (eq-eqb (state_of r a) ongoing e)
      (other (waits_on r a) (refused_other still_waiting (λ q. omega arith))
      (other (not (subset width (due_of r a) (written_of r a))) (refused_other unwritten (λ q. omega arith))
      (record { not_23 = λ q. omega arith })))

  -- each call, where its event leads on, and where it does not
  leads_on : (e : Event) → state_of r a ≡ state_number (leaves e) → Other (call_of r (kind_of e) a b)
  leads_on Learn q = rw (call_learn r a b ∙ learn_ok r a q) (record { not_23 = λ q. omega arith })
  leads_on Release q = rw (call_release r a b) (release_on q)
  leads_on Write q = rw (call_write r a b) (write_on q)
  leads_on Finish q = rw (call_finish r a b) (finish_on q)

  leads_nowhere : (e : Event) → next_of r a e ≡ None → call_of r (kind_of e) a b ≡ gives r (refused wrong_state)
  leads_nowhere Learn h = call_learn r a b ∙ learn_none r a h
  leads_nowhere Release h = call_release r a b ∙ release_none r a h
  leads_nowhere Write h = call_write r a b ∙ write_none r a b h
  leads_nowhere Finish h = call_finish r a b ∙ finish_none r a h

is_known : (e : Event) → is_kind (kind_of e) ≡ true
is_known Learn = kind_known learn_kind (omega arith) (omega arith)
is_known Release = kind_known release_kind (omega arith) (omega arith)
is_known Write = kind_known write_kind (omega arith) (omega arith)
is_known Finish = kind_known finish_kind (omega arith) (omega arith)

-- for a record and routers that pass the tests before
pub none_23 :
    (r : Record) (event : Event) (a b : ℕ)
    → is_record r ≡ true
    → are_routers r (kind_of event) a b ≡ true
    → (next_of r a event ≡ None) ↔ ((step_of r (kind_of event) a b).reply ≡ refused wrong_state)
none_23 r e a b good inside = (λ h. ap (λ (o : Outcome). o.reply) (step ∙ leads_nowhere r a b e h), refused_none)
  where
    step : step_of r (kind_of e) a b ≡ call_of r (kind_of e) a b
    step = step_call r (kind_of e) a b good (is_known e) inside

    refused_none : (step_of r (kind_of e) a b).reply ≡ refused wrong_state → next_of r a e ≡ None
    refused_none h = go (next_of r a e) refl
      where
        go : (next : Option State) → next_of r a e ≡ next → next ≡ None
        go None q = refl
        go (Some s) q =
            absurd
            ((leads_on r a b e (next_to (state_of r a) e s q).0).not_23
            (ap (λ (o : Outcome). reply_number o.reply) (sym step) ∙ ap reply_number h))
