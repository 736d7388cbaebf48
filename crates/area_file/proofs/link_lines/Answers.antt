use Rattle.std.proofs.Common.{sym, ◌∙◌, ◌≡◌, ◌*◌, arith, get_or, get_or-take, length-take, take}
use Rattle.area_file.proofs.LineLaws.{link_ends, lines_none, lines_listed, lines_less}
use Rattle.area_file.proofs.link_lines.Goals as goal
use Rattle.area_file.proofs.link_lines.Goals.{then-is_listed, else-is_listed}

pub loop-k-init : goal.loop-k-init
loop-k-init c = lines_none c.args.n c.args.metrics.now c.args.out.now

pub link_line-requires : goal.link_line-requires
link_line-requires c =
    let size = length-take (64 * c.args.n) c.args.metrics.now in
    link_ends c.args.n c.loop-k.k _ (omega arith) (sym c.is_listed.ensures.answer ∙ c.if-is_listed.true)

pub loop-k-preserved : goal.loop-k-preserved
loop-k-preserved c =
    let n = c.args.n in
    let m = c.args.metrics.now in
    let k = c.loop-k.k in
    let size = length-take (64 * n) m in
    let cell : get_or (take (64 * n) m) k 0 ≡ get_or m k 0 = get_or-take (64 * n) m k 0 (omega arith) in
    elim c.if-is_listed.branch [
      | then-is_listed w ↦
          let listed = rw cell at (sym c.is_listed.ensures.answer ∙ w.if-is_listed.true) in
          rw w.out-is (lines_listed n m k c.loop-k.invariant listed (rw cell at w.link_line.ensures))
      | else-is_listed w ↦
          let less = rw cell at (sym c.is_listed.ensures.answer ∙ w.if-is_listed.false) in
          rw w.out-is (lines_less n m k c.loop-k.invariant less)
    ]
