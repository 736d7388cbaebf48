-- Each link's cell is in the table, since both its ends are routers.
use Rattle.std.proofs.Common.{arith, ◌≡◌, ◌<◌}
use Rattle.entries.proofs.EachLaws.{visits_first, visits_next, visits_entry, visits_all}
use Rattle.bench_file.proofs.Linking.{linked_none, linked_more, linked_all}
use Rattle.bench_file.proofs.metrics.put.Goals as goal

pub loop-link-init : goal.loop-link-init
loop-link-init c =
    let first = c.of.ensures.first in
    let take = c.take-link-items.ensures in
    rw (c.into_iter-link-iterator.ensures.into_iter_gives, take.source, take.count)
    (record {
      visits = visits_first first.0 first.1;
      left = omega (arith, first.1);
      linked = rw first.1 (linked_none _ _ c.requires.table_value);
    })

pub loop-link-preserved : goal.loop-link-preserved
loop-link-preserved c =
    let before = c.loop-link.invariant in
    let step = c.in-Some.ensures.steps in
    let here = c.loop-link.link-iterator.iter.next in
    let ends = c.requires.in_table here (omega (arith, step.1)) in
    let more = linked_more c.args.list.now here c.loop-link.table before.linked ends.0 ends.1 c.in-Some.link
    (visits_entry before.visits step.0) in
    record {
      visits = visits_next before.visits step.0;
      left = omega (arith, step.0.next, step.1);
      linked = rw step.0.next more;
    }

-- none is left: the list has all of them
pub returns : goal.returns
returns c =
    let before = c.loop-link.invariant in
    let over = λ (h : 0 < c.loop-link.link-iterator.n). visits_all before.visits (c.in-None.ensures.steps h) in
    let all : c.loop-link.link-iterator.iter.next ≡ c.args.links = grind (arith, over) in
    linked_all c.args.list.now c.args.links c.loop-link.table (rw all at before.linked)
