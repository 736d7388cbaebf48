use Rattle.std.proofs.Common.{arith, rules}
use Rattle.area.specs.Limits.{width}
use Rattle.sets.proofs.MembersLaws.{loop_turn, loop_come, loop_end}
use Rattle.order.proofs.EnteringLaws.{entering_start, entering_next, entering_skip, entering_end}
use Rattle.order.proofs.waiting.enter.Goals as goal

pub loop-r-init : goal.loop-r-init
loop-r-init c = entering_start width c.args.n c.args.s c.args.out.now

pub loop-r-preserved-then-r-n : goal.loop-r-preserved-then-r-n
loop-r-preserved-then-r-n c =
    let a = c.args in
    let at = c.loop-r in
    let turn = loop_turn at.yielded _ _ a.set (search rules) at.yielded_by _ _ c.in-Some.ensures.steps in
    entering_next width a.n a.s a.out.now at.yielded at.out c.in-Some.r at.invariant c.add.result (omega arith)
    c.if-r-n.true turn.last c.add.ensures.set

pub loop-r-preserved : goal.loop-r-preserved
loop-r-preserved c =
    entering_skip width c.args.n c.args.s c.args.out.now c.loop-r.yielded c.loop-r.out c.in-Some.r c.loop-r.invariant
    c.if-r-n.false

pub returns : goal.returns
returns c =
    let a = c.args in
    let at = c.loop-r in
    entering_end width a.n a.s a.out.now at.invariant
    (loop_come at.yielded _ _ a.set (search rules) at.yielded_by)
    (loop_end at.yielded _ _ a.set (search rules) at.yielded_by c.in-None.ensures.steps.0 (omega arith))
