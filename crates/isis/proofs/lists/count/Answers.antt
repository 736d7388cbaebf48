-- One list more has begun.
use Rattle.std.proofs.Common.{rules, arith, ap, ◌+◌, length, length-drop}
use Rattle.area.specs.Bytes.{two}
use Rattle.isis.specs.Lists.{list_count}
use Rattle.isis.proofs.IsisLaws.{count_more}
use Rattle.isis.proofs.lists.count.Goals as goal

pub loop-rest-preserved : goal.loop-rest-preserved
loop-rest-preserved c =
    let r = c.loop-rest.rest.now in
    let more = count_more r (search rules) c.in-Some.ensures.0 in
    let after = c.in-Some.ensures.2 in
    let left = length-drop (2 + two r 0) r in
    record {
      few = omega (arith, ap length after, left, c.in-Some.ensures.0, c.loop-rest.invariant.few);
      all = omega (arith, more, ap list_count after, c.loop-rest.invariant.all);
    }
