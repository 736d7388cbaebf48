use Rattle.std.proofs.Common.{arith, length-take, get_or-take}
use Rattle.report.proofs.CallLineLaws.{each_start, each_next}
use Rattle.report.proofs.step_section.turns_calls.Goals as goal

pub loop-router-init : goal.loop-router-init
loop-router-init c = each_start _ _

pub loop-router-preserved : goal.loop-router-preserved
loop-router-preserved c =
    let n = c.args.fresh.now.n in
    let places = c.args.places.now in
    let k = c.loop-router.router-index in
    let below = length-take n places in
    each_next _ _ c.loop-router.invariant
    (rw (get_or-take n places k 0 (omega arith)) at c.turn_calls.ensures.lines)
