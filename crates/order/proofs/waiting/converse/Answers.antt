use Rattle.std.proofs.Common.{◌≡◌, arith, get_or}
use Rattle.std.proofs.lemmas.List.{get_or-take}
use Rattle.area.specs.Limits.{width}
use Rattle.order.proofs.EnteringLaws.{held_none, held_more, held_all}
use Rattle.order.proofs.waiting.converse.Goals as goal

pub loop-s-init : goal.loop-s-init
loop-s-init c = held_none width _ _

pub loop-s-preserved : goal.loop-s-preserved
loop-s-preserved c =
    held_more width c.args.n (λ k. get_or c.args.sets.now k 0) c.loop-s.s c.loop-s.out _ (omega arith)
    c.loop-s.invariant (rw (get_or-take c.args.n c.args.sets.now c.loop-s.s 0 (omega arith)) at c.enter.ensures)

pub returns : goal.returns
returns c =
    let e : c.loop-s.s ≡ c.args.n = omega arith in
    held_all width _ _ c.loop-s.out (rw e at c.loop-s.invariant)
