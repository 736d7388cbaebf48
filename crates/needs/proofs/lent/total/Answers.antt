-- One more router counts.
use Rattle.std.proofs.Common.{arith}
use Rattle.sets.proofs.CountLaws.{total_start, total_found}
use Rattle.needs.proofs.lent.total.Goals as goal

pub loop-x-init : goal.loop-x-init
loop-x-init g c = record { bound = omega arith; sum = λ f counts. total_start f }

pub loop-x-preserved : goal.loop-x-preserved
loop-x-preserved g c =
    let most = c.requires.most c.loop-x.x c.of-count.result c.of-count.ensures in
    record {
      bound = omega (arith, most);
      sum = λ f counts.
          total_found c.loop-x.x f _ _ (c.loop-x.invariant.sum f counts)
          (counts c.loop-x.x c.of-count.result c.of-count.ensures);
    }
