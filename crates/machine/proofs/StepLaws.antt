-- What a call answers and hands back, a law for each way that it can end. A test in front of an outcome decides it, so
-- each law rewrites by the tests that hold.
--     kind_known .. reads_false        which kinds there are, and which read a and b
--     sound_low .. sound_most          which records are sound
--     step_record, step_kind, step_router      the refusals bad_record, unknown_kind and unknown_router
--     step_call        the call, where none of these is given
--     routers_one, routers_two, first_out, second_out, routers_none        the routers that a call names
--     call_learn, call_release, call_write, call_finish, call_deliver, call_tick       the call of each kind
--     learn_unread, release_unread, finish_unread, tick_unread      what is not read
--     learn_state, learn_ok, .. tick_ok        the ends of each kind
--     must_none, must_late, must_some, Free    who must wait, and who need not
--     listens_holding, listens_ongoing, listens_neither        who listens for a message
use Rattle.std.specs.Prelude.{ℕ, ◌+◌, ◌≤◌, ◌<◌, ◌≡◌, Bool, true, not, ◌&&◌, ◌||◌, ◌≢◌, ◌⊎◌, List, leb, ltb, eqb, get_or}
use Rattle.std.proofs.Math.Path.{refl}
use Rattle.std.proofs.Common.{ap₂, ◌∙◌, inl, inr, ⊎_elim, arith}
use Rattle.std.proofs.Math.Bool.{false}
use Rattle.std.proofs.Math.Decide.{ℕ_discrete}
use borrow.Author.Tests.{eqb-true, eqb-false, leb-true, ltb-false, eq-eqb, ne_eqb, le-ltb, lt-ltb, le-leb, lt-leb}
use Rattle.area.specs.Limits.{width, last_time}
use Rattle.area.specs.Tests.{all}
use Rattle.area.proofs.TestLaws.{both_true, and_false, and_one, or_cases, or_false}
use Rattle.area.specs.Sizes.{is_router_count}
use Rattle.area.specs.Refusals.{unknown_router, bad_record, unknown_kind, wrong_state, still_waiting}
use Rattle.area.specs.Refusals.{not_due, unwritten, not_done, not_told, too_early, clock_end}
use Rattle.area.proofs.SizeLaws.{router_count_true, router_count_low, router_count_high, router_count_most}
use Rattle.sets.specs.Sets.{bit, added, removed, subset}
use Rattle.plan.specs.declared.Record.{Record}
use Rattle.machine.specs.Answers.{ok, ignored, refused, gives}
use Rattle.machine.specs.Machine.{idle, holding, ongoing, done}
use Rattle.machine.specs.Machine.{learn_kind, release_kind, write_kind, finish_kind, deliver_kind, tick_kind}
use Rattle.machine.specs.Machine.{state_of, waiting_of, telling_of, due_of, written_of, held_until, due_time}
use Rattle.machine.specs.Machine.{with_state, with_waiting, with_written, with_learned, with_clock}
use Rattle.machine.specs.Machine.{learn, release, must_wait, ready, write, finish, listens, deliver, tick}
use Rattle.machine.specs.Machine.{is_sound, is_record, is_kind, reads_a, reads_b, are_routers, call_of, step_of}

-- ---- which kinds there are, and which read a and b
pub kind_known : (kind : ℕ) → learn_kind ≤ kind → kind ≤ tick_kind → is_kind kind ≡ true
unfolding is_kind
kind_known kind a b = rw (le-leb learn_kind kind a, le-leb kind tick_kind b) refl

pub kind_other : (kind : ℕ) → (kind < learn_kind) ⊎ (tick_kind < kind) → is_kind kind ≡ false
unfolding is_kind
kind_other kind (inl h) = rw (lt-leb learn_kind kind h) refl
kind_other kind (inr h) = rw (lt-leb kind tick_kind h) (and_false (leb learn_kind kind) false refl)

pub reads_two : (reads_b write_kind ≡ true) × (reads_b deliver_kind ≡ true)
unfolding reads_b
reads_two = (refl, refl)

pub reads_other : (kind : ℕ) → kind ≢ write_kind → kind ≢ deliver_kind → reads_b kind ≡ false
unfolding reads_b
reads_other kind f g = ap₂ ◌||◌ (ne_eqb kind write_kind f) (ne_eqb kind deliver_kind g)

-- all kinds but a tick read a
pub reads_first : (kind : ℕ) → kind ≢ tick_kind → reads_a kind ≡ true
unfolding reads_a
reads_first kind f = rw (ne_eqb kind tick_kind f) refl

pub reads_none : (reads_a tick_kind ≡ false) × (reads_b tick_kind ≡ false)
unfolding reads_a reads_b
reads_none = (refl, refl)

-- and the other way round
pub kind_range : (kind : ℕ) → is_kind kind ≡ true → (learn_kind ≤ kind) × (kind ≤ tick_kind)
unfolding is_kind
kind_range kind e =
    let x = both_true (leb learn_kind kind) (leb kind tick_kind) e in
    (leb-true learn_kind kind x.0, leb-true kind tick_kind x.1)

pub reads_true : (kind : ℕ) → reads_b kind ≡ true → (kind ≡ write_kind) ⊎ (kind ≡ deliver_kind)
unfolding reads_b
reads_true kind e =
    ⊎_elim (λ a. inl (eqb-true kind write_kind a)) (λ b. inr (eqb-true kind deliver_kind b))
    (or_cases (eqb kind write_kind) (eqb kind deliver_kind) e)

pub reads_false : (kind : ℕ) → reads_b kind ≡ false → (kind ≢ write_kind) × (kind ≢ deliver_kind)
unfolding reads_b
reads_false kind e =
    let x = or_false (eqb kind write_kind) (eqb kind deliver_kind) e in
    (eqb-false kind write_kind x.0, eqb-false kind deliver_kind x.1)

-- ---- which records are sound
pub sound_low : (n : ℕ) (s : List ℕ) → n ≡ 0 → is_sound n s ≡ false
unfolding is_sound
sound_low n s z = rw (router_count_low n (omega arith)) refl

pub sound_high : (n : ℕ) (s : List ℕ) → width < n → is_sound n s ≡ false
unfolding is_sound
sound_high n s h = rw (router_count_high n h) refl

pub sound_states :
    (n : ℕ) (s : List ℕ)
    → n ≢ 0
    → n ≤ width
    → is_sound n s ≡ all width (λ i. leb (get_or s i 0) done)
unfolding is_sound
sound_states n s p h = rw (router_count_true n (omega arith) h) refl

pub sound_most : (n : ℕ) (s : List ℕ) → is_sound n s ≡ true → n ≤ width
unfolding is_sound
sound_most n s e = router_count_most n (both_true (is_router_count n) (all width (λ i. leb (get_or s i 0) done)) e).0

-- ---- the refusals that come first, and what is left then
module _ (r : Record) (kind a b : ℕ) where
  pub step_record : is_record r ≡ false → step_of r kind a b ≡ gives r (refused bad_record)
  unfolding step_of
  step_record e = rw e refl

  module _ (good : is_record r ≡ true) where
    pub step_kind : is_kind kind ≡ false → step_of r kind a b ≡ gives r (refused unknown_kind)
    unfolding step_of
    step_kind e = rw (good, e) refl

    module _ (known : is_kind kind ≡ true) where
      pub step_router : are_routers r kind a b ≡ false → step_of r kind a b ≡ gives r (refused unknown_router)
      unfolding step_of
      step_router e = rw (good, known, e) refl

      pub step_call : are_routers r kind a b ≡ true → step_of r kind a b ≡ call_of r kind a b
      unfolding step_of
      step_call e = rw (good, known, e) refl

  -- the routers that a call names: a alone, or a and b
  module _ (first : kind ≢ tick_kind) where
    pub routers_one : reads_b kind ≡ false → are_routers r kind a b ≡ ltb a r.n
    unfolding are_routers
    routers_one e = rw (reads_first kind first, e) (and_one (ltb a r.n))

    pub routers_two : reads_b kind ≡ true → are_routers r kind a b ≡ (ltb a r.n && ltb b r.n)
    unfolding are_routers
    routers_two e = rw (reads_first kind first, e) refl

    -- one of them is no router of the area
    pub first_out : r.n ≤ a → are_routers r kind a b ≡ false
    unfolding are_routers
    first_out h = rw (reads_first kind first, le-ltb a r.n h) refl

    pub second_out : reads_b kind ≡ true → r.n ≤ b → are_routers r kind a b ≡ false
    second_out e h = routers_two e ∙ and_false (ltb a r.n) _ (le-ltb b r.n h)

-- a tick names none
pub routers_none : (r : Record) (a b : ℕ) → are_routers r tick_kind a b ≡ true
unfolding are_routers
routers_none r a b = rw (reads_none.0, reads_none.1) refl

-- ---- the call of each kind
module _ (r : Record) (a b : ℕ) where
  pub call_learn : call_of r learn_kind a b ≡ learn r a
  unfolding call_of
  call_learn = refl

  pub call_release : call_of r release_kind a b ≡ release r a
  unfolding call_of
  call_release = refl

  pub call_write : call_of r write_kind a b ≡ write r a b
  unfolding call_of
  call_write = refl

  pub call_finish : call_of r finish_kind a b ≡ finish r a
  unfolding call_of
  call_finish = refl

  pub call_deliver : call_of r deliver_kind a b ≡ deliver r a b
  unfolding call_of
  call_deliver = refl

  pub call_tick : call_of r tick_kind a b ≡ tick r
  unfolding call_of
  call_tick = refl

-- ---- learn, release and finish do not read b, and a tick reads neither
module _ (r : Record) (a b : ℕ) where
  pub learn_unread : step_of r learn_kind a b ≡ step_of r learn_kind a 0
  unfolding step_of are_routers reads_a reads_b call_of
  learn_unread = refl

  pub release_unread : step_of r release_kind a b ≡ step_of r release_kind a 0
  unfolding step_of are_routers reads_a reads_b call_of
  release_unread = refl

  pub finish_unread : step_of r finish_kind a b ≡ step_of r finish_kind a 0
  unfolding step_of are_routers reads_a reads_b call_of
  finish_unread = refl

  pub tick_unread : step_of r tick_kind a b ≡ step_of r tick_kind 0 0
  unfolding step_of are_routers reads_a reads_b call_of
  tick_unread = refl

-- ---- the ends of learn and release
module _ (r : Record) (a : ℕ) where
  pub learn_state : state_of r a ≢ idle → learn r a ≡ gives r (refused wrong_state)
  unfolding learn
  learn_state f = rw (ne_eqb (state_of r a) idle f) refl

  pub learn_ok : state_of r a ≡ idle → learn r a ≡ gives (with_learned r a holding) ok
  unfolding learn
  learn_ok e = rw (eq-eqb (state_of r a) idle e) refl

  pub release_state : state_of r a ≢ holding → release r a ≡ gives r (refused wrong_state)
  unfolding release
  release_state f = rw (ne_eqb (state_of r a) holding f) refl

  module _ (e : state_of r a ≡ holding) where
    pub release_early : r.clock < held_until r a → release r a ≡ gives r (refused too_early)
    unfolding release
    release_early h = rw (eq-eqb (state_of r a) holding e, lt-ltb r.clock (held_until r a) h) refl

    pub release_ok : held_until r a ≤ r.clock → release r a ≡ gives (with_state r a ongoing) ok
    unfolding release
    release_ok h = rw (eq-eqb (state_of r a) holding e, le-ltb r.clock (held_until r a) h) refl

-- ---- who must wait
module _ (waits clock due : ℕ) where
  pub must_none : waits ≡ 0 → must_wait waits clock due ≡ false
  unfolding must_wait
  must_none e = rw (eq-eqb waits 0 e) refl

  pub must_late : due ≤ clock → must_wait waits clock due ≡ false
  unfolding must_wait
  must_late h = rw (le-ltb clock due h) (and_false (not (eqb waits 0)) false refl)

  pub must_some : waits ≢ 0 → must_wait waits clock due ≡ ltb clock due
  unfolding must_wait
  must_some f = rw (ne_eqb waits 0 f) refl

-- A router need not wait: it waits for none, or its due time has come.
pub data NeedNotWait (waits clock due : ℕ) : Type 0 where
  waits_none : waits ≡ 0 → NeedNotWait waits clock due
  time_come : due ≤ clock → NeedNotWait waits clock due

-- router a of the record r need not, and must
abbrev pub Free : (r : Record) (a : ℕ) → Type 0
Free r a = NeedNotWait (waiting_of r a) r.clock (due_time r a)

abbrev pub waits_on : (r : Record) (a : ℕ) → Bool
waits_on r a = must_wait (waiting_of r a) r.clock (due_time r a)

pub free_waits : {waits clock due : ℕ} → NeedNotWait waits clock due → must_wait waits clock due ≡ false
free_waits {waits} {clock} {due} (waits_none z) = must_none waits clock due z
free_waits {waits} {clock} {due} (time_come h) = must_late waits clock due h

pub waits_free : (waits clock due : ℕ) → must_wait waits clock due ≡ false → NeedNotWait waits clock due
unfolding must_wait
waits_free waits clock due e = by_set (ℕ_discrete waits 0)
  where
    by_set : Dec (waits ≡ 0) → NeedNotWait waits clock due
    by_set (yes z) = waits_none z
    by_set (no f) = time_come (ltb-false clock due (rw (ne_eqb waits 0 f) at e))

-- ---- the ends of finish
module _ (r : Record) (a : ℕ) where
  pub finish_state : state_of r a ≢ ongoing → finish r a ≡ gives r (refused wrong_state)
  unfolding finish ready
  finish_state f = rw (ne_eqb (state_of r a) ongoing f) refl

  module _ (e : state_of r a ≡ ongoing) where
    pub finish_waiting : waits_on r a ≡ true → finish r a ≡ gives r (refused still_waiting)
    unfolding finish ready
    finish_waiting f = rw (eq-eqb (state_of r a) ongoing e, f) refl

    module _ (w : waits_on r a ≡ false) where
      pub finish_unwritten :
          subset width (due_of r a) (written_of r a) ≡ false
          → finish r a ≡ gives r (refused unwritten)
      unfolding finish ready
      finish_unwritten f = rw (eq-eqb (state_of r a) ongoing e, w, f) refl

      pub finish_ok : subset width (due_of r a) (written_of r a) ≡ true → finish r a ≡ gives (with_state r a done) ok
      unfolding finish ready
      finish_ok t = rw (eq-eqb (state_of r a) ongoing e, w, t) refl

-- ---- the ends of write
module _ (r : Record) (a b : ℕ) where
  pub write_state : state_of r a ≢ ongoing → write r a b ≡ gives r (refused wrong_state)
  unfolding write ready
  write_state f = rw (ne_eqb (state_of r a) ongoing f) refl

  module _ (e : state_of r a ≡ ongoing) where
    pub write_waiting : waits_on r a ≡ true → write r a b ≡ gives r (refused still_waiting)
    unfolding write ready
    write_waiting f = rw (eq-eqb (state_of r a) ongoing e, f) refl

    module _ (w : waits_on r a ≡ false) where
      pub write_not_due : bit (due_of r a) b ≡ false → write r a b ≡ gives r (refused not_due)
      unfolding write ready
      write_not_due f = rw (eq-eqb (state_of r a) ongoing e, w, f) refl

      module _ (t : bit (due_of r a) b ≡ true) where
        pub write_again : bit (written_of r a) b ≡ true → write r a b ≡ gives r (refused not_due)
        unfolding write ready
        write_again u = rw (eq-eqb (state_of r a) ongoing e, w, t, u) refl

        pub write_ok : bit (written_of r a) b ≡ false
            → write r a b ≡ gives (with_written r a (added width (written_of r a) b)) ok
        unfolding write ready
        write_ok u = rw (eq-eqb (state_of r a) ongoing e, w, t, u) refl

-- ---- who listens
module _ (s w a : ℕ) where
  pub listens_holding : s ≡ holding → listens s w a ≡ bit w a
  unfolding listens
  listens_holding e = rw (eq-eqb s holding e) refl

  pub listens_ongoing : s ≡ ongoing → listens s w a ≡ bit w a
  unfolding listens
  listens_ongoing e = rw e refl

  pub listens_neither : s ≢ holding → s ≢ ongoing → listens s w a ≡ false
  unfolding listens
  listens_neither f g = rw (ne_eqb s holding f, ne_eqb s ongoing g) refl

-- ---- the ends of deliver
module _ (r : Record) (a b : ℕ) where
  pub deliver_not_done : state_of r a ≢ done → deliver r a b ≡ gives r (refused not_done)
  unfolding deliver
  deliver_not_done f = rw (ne_eqb (state_of r a) done f) refl

  module _ (e : state_of r a ≡ done) where
    pub deliver_not_told : bit (telling_of r a) b ≡ false → deliver r a b ≡ gives r (refused not_told)
    unfolding deliver
    deliver_not_told f = rw (eq-eqb (state_of r a) done e, f) refl

    module _ (t : bit (telling_of r a) b ≡ true) where
      pub deliver_lost : listens (state_of r b) (waiting_of r b) a ≡ false → deliver r a b ≡ gives r ignored
      unfolding deliver
      deliver_lost f = rw (eq-eqb (state_of r a) done e, t, f) refl

      pub deliver_ok : listens (state_of r b) (waiting_of r b) a ≡ true
          → deliver r a b ≡ gives (with_waiting r b (removed width (waiting_of r b) a)) ok
      unfolding deliver
      deliver_ok u = rw (eq-eqb (state_of r a) done e, t, u) refl

-- ---- the ends of a tick
pub tick_last : (r : Record) → r.clock ≡ last_time → tick r ≡ gives r (refused clock_end)
unfolding tick
tick_last r e = rw (eq-eqb r.clock last_time e) refl

pub tick_ok : (r : Record) → r.clock ≢ last_time → tick r ≡ gives (with_clock r (r.clock + 1)) ok
unfolding tick
tick_ok r f = rw (ne_eqb r.clock last_time f) refl
