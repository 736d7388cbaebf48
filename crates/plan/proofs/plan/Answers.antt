-- `plan` has two returns, and what was judged decides between them: a refusal leaves every table, and the record and
-- the tables of an input that is planned are those that `fill` promises.
use Rattle.std.proofs.Common.{◌≡◌, sym, ap, ◌∙◌, Bool, true, arith}
use Rattle.area.specs.declared.refusal.Refusal.{Refusal}
use Rattle.area.specs.Refusals.{refusal_number}
use Rattle.area.proofs.RefusalLaws.{refusal_positive}
use Rattle.plan.specs.declared.Change.{Change}
use Rattle.plan.specs.Plan.{Tables, are_tables, plan_refusal, is_planned, tables_by}
use Rattle.plan.specs.Planned.{Plan, Sized}
use Rattle.plan.proofs.PlanLaws.{sized_of, planned_is, planned_true, planned_false}
use Rattle.plan.proofs.PlanLaws.{record_planned, tables_planned, tables_refused}
use Rattle.plan.proofs.plan.Goals as goal

-- what the calls before a return say of the change c and the lent tables t
module _ (c : Change) (t : Tables) {sized : Bool} (told : sized ≡ are_tables c.metrics.now t) where
  kept :
      (k : Refusal)
      → refusal_number k ≡ plan_refusal c.n c.step_time c.metrics.now c.list.now sized
      → t ≡ tables_by c t
  kept k e =
      let is = e ∙ ap (plan_refusal c.n c.step_time c.metrics.now c.list.now) told in
      let refused = planned_false c.n c.step_time c.metrics.now c.list.now t
      (λ z. omega (arith, refusal_positive k, is, z)) in
      sym (tables_refused c.n c.step_time c.metrics.now c.list.now t refused)

  module _ (e : 0 ≡ plan_refusal c.n c.step_time c.metrics.now c.list.now sized) where
    planned : is_planned c.n c.step_time c.metrics.now c.list.now t ≡ true
    planned =
        let is = e ∙ ap (plan_refusal c.n c.step_time c.metrics.now c.list.now) told in
        planned_true c.n c.step_time c.metrics.now c.list.now t (sym is)

    plan_is : Plan c.n c.metrics.now c.list.now
    plan_is = ((planned_is c.n c.step_time c.metrics.now c.list.now t).0 planned).2

    sized_is : Sized c.metrics.now t
    sized_is = sized_of c.metrics.now t ((planned_is c.n c.step_time c.metrics.now c.list.now t).0 planned).0

pub judge-requires : goal.judge-requires
judge-requires c = λ e. (sized_of c.args.change.metrics.now _ (sym c.are_tables-sized.ensures ∙ e)).given

pub returns-in_err-judged-clause-tables : goal.returns-in_err-judged-clause-tables
returns-in_err-judged-clause-tables c =
    kept c.args.change _ c.are_tables-sized.ensures c.in_err-judged.field-0.0 c.in_err-judged.ensures.answer

pub fill-requires-clause-plan : goal.fill-requires-clause-plan
fill-requires-clause-plan c = plan_is c.args.change _ c.are_tables-sized.ensures c.in_ok-judged.ensures.answer

pub fill-requires-clause-sized : goal.fill-requires-clause-sized
fill-requires-clause-sized c = sized_is c.args.change _ c.are_tables-sized.ensures c.in_ok-judged.ensures.answer

pub returns-clause-plan : goal.returns-clause-plan
returns-clause-plan c =
    let a = c.args in
    let is = planned a.change _ c.are_tables-sized.ensures c.in_ok-judged.ensures.answer in
    c.fill.ensures.value
    ∙ sym (record_planned a.change.n a.change.hold_time a.change.step_time a.change.metrics.now a.change.list.now _ is)

pub returns-clause-tables : goal.returns-clause-tables
returns-clause-tables c =
    let a = c.args in
    let is = planned a.change _ c.are_tables-sized.ensures c.in_ok-judged.ensures.answer in
    c.fill.ensures.left_value
    ∙ sym (tables_planned a.change.n a.change.step_time a.change.metrics.now a.change.list.now _ is)
