-- How Step ends: by one of the refusals that come first, or by the call of its kind. Here o is an outcome.
--     record_end, kind_end, first_end, write_out, deliver_out      the refusals
--     learn_end .. tick_end        the calls, where the record is sound and the routers are of the area
use Rattle.std.specs.Prelude.{ℕ, ◌≤◌, ◌<◌, ◌≡◌, true, false, ◌≢◌}
use Rattle.std.proofs.Common.{sym, ap, ap₂, ◌∙◌, arith, lt-ltb}
use Rattle.area.specs.Refusals.{unknown_router, bad_record, unknown_kind}
use Rattle.area.proofs.TestLaws.{and_true}
use Rattle.plan.specs.declared.Record.{Record}
use Rattle.machine.specs.Answers.{Outcome, gives, refused}
use Rattle.machine.specs.Machine.{learn_kind, release_kind, write_kind, finish_kind, deliver_kind, tick_kind}
use Rattle.machine.specs.Machine.{learn, release, write, finish, deliver, tick}
use Rattle.machine.specs.Machine.{is_record, is_kind, reads_b, call_of, step_of}
use Rattle.machine.proofs.StepLaws.{sound_most, kind_known, reads_two, reads_other, step_record, step_kind, step_router}
use Rattle.machine.proofs.StepLaws.{step_call, routers_one, routers_two, routers_none, first_out, second_out}
use Rattle.machine.proofs.StepLaws.{call_learn, call_release, call_write, call_finish, call_deliver, call_tick}

module _ (r : Record) (kind a b : ℕ) where
  -- a refusal by its number, and an outcome by the number of its kind
  refuses :
      {number why : ℕ}
      → why ≡ number
      → step_of r kind a b ≡ gives r (refused number)
      → gives r (refused why) ≡ step_of r kind a b
  refuses is e = ap (λ (n : ℕ). gives r (refused n)) is ∙ sym e

  comes : {k : ℕ} {o : Outcome} → k ≡ kind → step_of r k a b ≡ o → o ≡ step_of r kind a b
  comes is e = sym e ∙ ap (λ (k : ℕ). step_of r k a b) is

  -- ---- the refusals that come first
  pub record_end : is_record r ≡ false → gives r (refused bad_record) ≡ step_of r kind a b
  record_end e = sym (step_record r kind a b e)

  module _ (good : is_record r ≡ true) where
    pub kind_end :
        (why : ℕ) → is_kind kind ≡ false → why ≡ unknown_kind → gives r (refused why) ≡ step_of r kind a b
    kind_end why e is = refuses is (step_kind r kind a b good e)

    -- the first router is none of the area, or the second, where it is read, is none
    module _ (k why : ℕ) (is : k ≡ kind) (from : learn_kind ≤ k) (to : k < tick_kind) (w : why ≡ unknown_router) where
      pub first_end : r.n ≤ a → gives r (refused why) ≡ step_of r kind a b
      first_end h =
          refuses w
          (step_router r kind a b good (kind_known kind (omega arith) (omega arith))
          (first_out r kind a b (λ s. omega arith) h))

      second_end : reads_b k ≡ true → r.n ≤ b → gives r (refused why) ≡ step_of r kind a b
      second_end both h =
          refuses w
          (step_router r kind a b good (kind_known kind (omega arith) (omega arith))
          (second_out r kind a b (λ s. omega arith) (ap reads_b (sym is) ∙ both) h))

    module _ (why : ℕ) (number : why ≡ unknown_router) (out : r.n ≤ b) where
      pub write_out : write_kind ≡ kind → gives r (refused why) ≡ step_of r kind a b
      write_out is = second_end write_kind why is (omega arith) (omega arith) number reads_two.0 out

      pub deliver_out : deliver_kind ≡ kind → gives r (refused why) ≡ step_of r kind a b
      deliver_out is = second_end deliver_kind why is (omega arith) (omega arith) number reads_two.1 out

    -- ---- the calls
    module _ (o : Outcome) (i : ℕ) (at : i ≡ a) (inside : a < r.n) where
      one_call :
          (k : ℕ)
          → learn_kind ≤ k
          → k < tick_kind
          → k ≢ write_kind
          → k ≢ deliver_kind
          → step_of r k a b ≡ call_of r k a b
      one_call k from to f g =
          step_call r k a b good (kind_known k from (omega arith))
          (routers_one r k a b (λ q. omega arith) (reads_other k f g) ∙ lt-ltb a r.n inside)

      pub learn_end : learn_kind ≡ kind → o ≡ learn r i → o ≡ step_of r kind a b
      learn_end is e =
          let call = one_call learn_kind (omega arith) (omega arith) (λ q. omega arith) (λ q. omega arith) in
          e ∙ ap (learn r) at ∙ comes is (call ∙ call_learn r a b)

      pub release_end : release_kind ≡ kind → o ≡ release r i → o ≡ step_of r kind a b
      release_end is e =
          let call = one_call release_kind (omega arith) (omega arith) (λ q. omega arith) (λ q. omega arith) in
          e ∙ ap (release r) at ∙ comes is (call ∙ call_release r a b)

      pub finish_end : finish_kind ≡ kind → o ≡ finish r i → o ≡ step_of r kind a b
      finish_end is e =
          let call = one_call finish_kind (omega arith) (omega arith) (λ q. omega arith) (λ q. omega arith) in
          e ∙ ap (finish r) at ∙ comes is (call ∙ call_finish r a b)

      module _ (j : ℕ) (to : j ≡ b) (second : b < r.n) where
        two_calls :
            (k : ℕ) → learn_kind ≤ k → k < tick_kind → reads_b k ≡ true → step_of r k a b ≡ call_of r k a b
        two_calls k from to both =
            let routers = routers_two r k a b (λ q. omega arith) both in
            step_call r k a b good (kind_known k from (omega arith))
            (routers ∙ and_true _ _ (lt-ltb a r.n inside) (lt-ltb b r.n second))

        pub write_end : write_kind ≡ kind → o ≡ write r i j → o ≡ step_of r kind a b
        write_end is e =
            let call = two_calls write_kind (omega arith) (omega arith) reads_two.0 in
            e ∙ ap₂ (write r) at to ∙ comes is (call ∙ call_write r a b)

        pub deliver_end : deliver_kind ≡ kind → o ≡ deliver r i j → o ≡ step_of r kind a b
        deliver_end is e =
            let call = two_calls deliver_kind (omega arith) (omega arith) reads_two.1 in
            e ∙ ap₂ (deliver r) at to ∙ comes is (call ∙ call_deliver r a b)

    pub tick_end : (o : Outcome) → tick_kind ≡ kind → o ≡ tick r → o ≡ step_of r kind a b
    tick_end o is e =
        let known = kind_known tick_kind (omega arith) (omega arith) in
        e ∙ comes is (step_call r tick_kind a b good known (routers_none r a b) ∙ call_tick r a b)

-- with that the routers of a sound record have an entry in every table
pub ruleset ends = (
  sound_most,
  record_end,
  kind_end,
  first_end,
  write_out,
  deliver_out,
  learn_end,
  release_end,
  finish_end,
  write_end,
  deliver_end,
  tick_end,
)
