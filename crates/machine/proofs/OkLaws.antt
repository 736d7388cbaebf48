-- When a call of each kind is answered ok, and the record that it hands back. The record r is sound and a is a router;
-- for write and deliver b is one too. Then none of the refusals that come first is given, and the law of that end of
-- the kind (StepLaws.antt) says the rest.
--     learns, releases, finishes       the kinds that read no b
--     writes, delivers                 those that read it
--     ticks_on                         a tick, which reads neither
use Rattle.std.specs.Prelude.{ℕ, ◌+◌, ◌≤◌, ◌<◌, ◌≡◌, true, false, ◌≢◌, ltb}
use Rattle.std.proofs.Common.{◌∙◌, arith, lt-ltb}
use Rattle.area.specs.Limits.{width, last_time}
use Rattle.area.proofs.TestLaws.{and_true}
use Rattle.sets.specs.Sets.{bit, added, removed, subset}
use Rattle.plan.specs.declared.Record.{Record}
use Rattle.machine.specs.Answers.{ok, gives}
use Rattle.machine.specs.Machine.{idle, holding, ongoing, done}
use Rattle.machine.specs.Machine.{learn_kind, release_kind, write_kind, finish_kind, deliver_kind, tick_kind}
use Rattle.machine.specs.Machine.{state_of, waiting_of, telling_of, due_of, written_of, held_until}
use Rattle.machine.specs.Machine.{with_state, with_waiting, with_written, with_learned, with_clock, is_record, reads_b}
use Rattle.machine.specs.Machine.{call_of, step_of}
use Rattle.machine.proofs.StepLaws.{kind_known, reads_two, reads_other, step_call, routers_one, routers_two}
use Rattle.machine.proofs.StepLaws.{routers_none, call_tick, tick_ok, Free, free_waits}
use Rattle.machine.proofs.StepLaws.{call_learn, call_release, call_write, call_finish, call_deliver}
use Rattle.machine.proofs.StepLaws.{learn_ok, release_ok, write_ok, finish_ok, deliver_ok, listens_ongoing}

module _ (r : Record) (good : is_record r ≡ true) (a : ℕ) (inside : a < r.n) where
  -- ---- the kinds that read no b
  alone :
      (kind : ℕ)
      → learn_kind ≤ kind
      → kind ≤ tick_kind
      → kind ≢ write_kind
      → kind ≢ deliver_kind
      → kind ≢ tick_kind
      → step_of r kind a 0 ≡ call_of r kind a 0
  alone kind l h f g first =
      step_call r kind a 0 good (kind_known kind l h)
      (routers_one r kind a 0 first (reads_other kind f g) ∙ lt-ltb a r.n inside)

  pub learns : state_of r a ≡ idle → step_of r learn_kind a 0 ≡ gives (with_learned r a holding) ok
  learns e =
      alone learn_kind (omega arith) (omega arith) (λ q. omega arith) (λ q. omega arith) (λ q. omega arith)
      ∙ call_learn r a 0
      ∙ learn_ok r a e

  pub releases :
      state_of r a ≡ holding
      → held_until r a ≤ r.clock
      → step_of r release_kind a 0 ≡ gives (with_state r a ongoing) ok
  releases e held =
      alone release_kind (omega arith) (omega arith) (λ q. omega arith) (λ q. omega arith) (λ q. omega arith)
      ∙ call_release r a 0
      ∙ release_ok r a e held

  pub finishes :
      state_of r a ≡ ongoing
      → Free r a
      → subset width (due_of r a) (written_of r a) ≡ true
      → step_of r finish_kind a 0 ≡ gives (with_state r a done) ok
  finishes e free whole =
      alone finish_kind (omega arith) (omega arith) (λ q. omega arith) (λ q. omega arith) (λ q. omega arith)
      ∙ call_finish r a 0
      ∙ finish_ok r a e (free_waits free) whole

  -- ---- the kinds that read b
  module _ (b : ℕ) (b_inside : b < r.n) where
    with_b :
        (kind : ℕ)
        → learn_kind ≤ kind
        → kind ≤ tick_kind
        → kind ≢ tick_kind
        → reads_b kind ≡ true
        → step_of r kind a b ≡ call_of r kind a b
    with_b kind l h first e =
        let both = and_true (ltb a r.n) (ltb b r.n) (lt-ltb a r.n inside) (lt-ltb b r.n b_inside) in
        step_call r kind a b good (kind_known kind l h) (routers_two r kind a b first e ∙ both)

    pub writes :
        state_of r a ≡ ongoing
        → Free r a
        → bit (due_of r a) b ≡ true
        → bit (written_of r a) b ≡ false
        → step_of r write_kind a b ≡ gives (with_written r a (added width (written_of r a) b)) ok
    writes e free due new =
        with_b write_kind (omega arith) (omega arith) (λ q. omega arith) reads_two.0
        ∙ call_write r a b
        ∙ write_ok r a b e (free_waits free) due new

    pub delivers :
        state_of r a ≡ done
        → bit (telling_of r a) b ≡ true
        → state_of r b ≡ ongoing
        → bit (waiting_of r b) a ≡ true
        → step_of r deliver_kind a b ≡ gives (with_waiting r b (removed width (waiting_of r b) a)) ok
    delivers e told state waits =
        with_b deliver_kind (omega arith) (omega arith) (λ q. omega arith) reads_two.1
        ∙ call_deliver r a b
        ∙ deliver_ok r a b e told (listens_ongoing (state_of r b) (waiting_of r b) a state ∙ waits)

-- ---- a tick
pub ticks_on :
    (r : Record)
    → is_record r ≡ true
    → r.clock ≢ last_time
    → step_of r tick_kind 0 0 ≡ gives (with_clock r (r.clock + 1)) ok
ticks_on r good f =
    step_call r tick_kind 0 0 good (kind_known tick_kind (omega arith) (omega arith)) (routers_none r 0 0)
    ∙ call_tick r 0 0
    ∙ tick_ok r f
