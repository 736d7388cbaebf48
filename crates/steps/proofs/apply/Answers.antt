-- The parts are those of the bench's record, before the step and after it.
use Rattle.std.proofs.Common.{◌≡◌, refl, sym, ap, ◌∙◌}
use Rattle.plan.specs.declared.Record.{Record}
use Rattle.machine.specs.Answers.{reply_of, gives}
use Rattle.machine.specs.Machine.{over, timed}
use Rattle.steps.specs.declared.lent.Lent.{Lent}
use Rattle.steps.specs.Lent.{put}
use Rattle.steps.proofs.apply.Goals as goal

-- no part is changed but those that are lent to be written
put_left :
    (x : Record) (m : Lent)
    → m.n ≡ x.n
    → m.ranks.now ≡ x.ranks
    → m.telling.now ≡ x.telling
    → m.due.now ≡ x.due
    → m.hold_time ≡ x.hold_time
    → m.step_time ≡ x.step_time
    → put x m
    ≡ over (timed x x.ranks x.hold_time x.step_time m.clock.now m.learn_times.now)
    x.n m.waiting.now x.telling x.due m.states.now m.written.now
put_left x m n ranks telling due hold step = rw (n, ranks, telling, due, hold, step) refl

pub returns : goal.returns
returns c =
    let x = c.args.bench.now in
    let same = c.step.ensures.same in
    let left = put_left x c.step.new.self same.0 same.1 same.2 same.3 same.4 same.5 in
    record {
      outcome =
          ap (λ (r : Record). gives r (reply_of c.step.result)) (sym left)
          ∙ c.step.ensures.outcome x;
    }
