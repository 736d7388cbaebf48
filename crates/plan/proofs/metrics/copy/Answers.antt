use Rattle.std.proofs.Common.{◌≡◌, arith}
use Rattle.plan.proofs.Copying.{rows_none, rows_more, rows_all}
use Rattle.plan.proofs.metrics.copy.Goals as goal

pub loop-i-init : goal.loop-i-init
loop-i-init c =
    let a = c.args in
    rows_none a.n a.old.now c.requires.0 a.new.now _ c.requires.2 c.clear.ensures.cells

pub loop-i-preserved : goal.loop-i-preserved
loop-i-preserved c =
    let a = c.args in
    rows_more a.n a.old.now c.requires.0 c.loop-i.i c.loop-i.new _ (omega arith) c.loop-i.invariant c.copy_row.ensures

pub returns : goal.returns
returns c =
    let a = c.args in
    let all : c.loop-i.i ≡ a.n = omega arith in
    rows_all a.n a.old.now c.requires.0 c.loop-i.new (rw all at c.loop-i.invariant)
