-- One law for each return (`plan_parts` and those after it), by what the parts before it answered.
use Rattle.std.proofs.Common.{sym, ap, ◌∙◌, rules}
use Rattle.changes.proofs.ChangeLaws.{sound_of}
use Rattle.changes.specs.Root.{is_common}
use Rattle.plan.proofs.PlanLaws.{at_area, at_length, at_change, at_direction, at_root, at_end, part_ready}
use Rattle.plan.proofs.judging.judge.Goals as goal

pub returns-in_err-judge_area-clause-answer : goal.returns-in_err-judge_area-clause-answer
returns-in_err-judge_area-clause-answer c =
    let a = c.args.change in
    let err = c.in_err-judge_area in
    let is = at_area a.n a.step_time a.metrics.now a.list.now c.args.sized err.field-0.0 err.ensures.answer in
    search (rules, is)

pub returns-in_err-judge_length-clause-answer : goal.returns-in_err-judge_length-clause-answer
returns-in_err-judge_length-clause-answer c =
    let a = c.args.change in
    let err = c.in_err-judge_length in
    let is = at_length a.n a.step_time a.metrics.now a.list.now c.args.sized c.in_ok-judge_area.ensures.answer
    err.field-0.0 err.ensures.answer in
    search (rules, is)

pub returns-in_err-first_refusal-clause-answer : goal.returns-in_err-first_refusal-clause-answer
returns-in_err-first_refusal-clause-answer c =
    let a = c.args.change in
    let err = c.in_err-first_refusal in
    let is = at_change a.n a.step_time a.metrics.now a.list.now c.args.sized c.in_ok-judge_area.ensures.answer
    c.in_ok-judge_length.ensures.answer err.field-0.0 err.ensures.answer in
    search (rules, is)

pub direction_of-requires : goal.direction_of-requires
direction_of-requires c =
    let a = c.args.change in
    let ready = part_ready a.n a.step_time a.metrics.now c.args.sized c.in_ok-judge_area.ensures.answer c.requires in
    (ready.most, ready.size, sound_of a.n a.list.now (sym c.in_ok-first_refusal.ensures.answer))

pub returns-in_err-direction-clause-answer : goal.returns-in_err-direction-clause-answer
returns-in_err-direction-clause-answer c =
    let a = c.args.change in
    let err = c.in_err-direction in
    let is = at_direction a.n a.step_time a.metrics.now a.list.now c.args.sized c.in_ok-judge_area.ensures.answer
    c.in_ok-judge_length.ensures.answer c.in_ok-first_refusal.ensures.answer err.field-0.0 err.ensures.answer in
    search (rules, is)

pub returns-then-not-is_common-clause-answer : goal.returns-then-not-is_common-clause-answer
returns-then-not-is_common-clause-answer c =
    let a = c.args.change in
    at_root a.n a.step_time a.metrics.now a.list.now c.args.sized c.in_ok-judge_area.ensures.answer
    c.in_ok-judge_length.ensures.answer c.in_ok-first_refusal.ensures.answer c.in_ok-direction.ensures.answer
    (sym c.if-not-is_common.true ∙ c.is_common.ensures.answer ∙ ap (is_common a.list.now) c.root-root.ensures.answer)

pub returns-clause-answer : goal.returns-clause-answer
returns-clause-answer c =
    let a = c.args.change in
    at_end a.n a.step_time a.metrics.now a.list.now c.args.sized c.in_ok-judge_area.ensures.answer
    c.in_ok-judge_length.ensures.answer c.in_ok-first_refusal.ensures.answer c.in_ok-direction.ensures.answer
    (sym c.if-not-is_common.false ∙ c.is_common.ensures.answer ∙ ap (is_common a.list.now) c.root-root.ensures.answer)
