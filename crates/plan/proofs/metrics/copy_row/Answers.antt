use Rattle.std.proofs.Common.{◌≡◌, ◌+◌, ◌*◌, refl, arith}
use Rattle.area.specs.Limits.{width}
use Rattle.plan.proofs.Copying.{copied_none, copied_more, copied_row}
use Rattle.plan.proofs.metrics.copy_row.Goals as goal

pub loop-k-init : goal.loop-k-init
loop-k-init c = copied_none _ _ c.args.new.now

pub loop-k-preserved : goal.loop-k-preserved
loop-k-preserved c =
    let a = c.args in
    copied_more _ a.old.now a.new.now c.loop-k.k c.loop-k.new c.loop-k.invariant (omega arith) (omega arith)

pub returns : goal.returns
returns c =
    let a = c.args in
    let all : c.loop-k.k ≡ width * a.i + a.n = omega arith in
    copied_row _ a.old.now a.new.now a.n a.i c.loop-k.new refl c.requires.n_le_width.0 c.requires.n_le_width.1
    c.requires.len.1 (rw all at c.loop-k.invariant)
