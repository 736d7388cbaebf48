-- A change that the iterator gives is the next of the list, and has no fault (`given_change`).
use Rattle.std.proofs.Common.{◌≡◌, arith}
use Rattle.entries.proofs.EachLaws.{visits_first, visits_listed, visits_entry, visits_next, visits_all}
use Rattle.plan.proofs.Applying.{applied_none, applied_more, applied_all, given_ends}
use Rattle.plan.proofs.metrics.apply.Goals as goal

pub loop-change-init : goal.loop-change-init
loop-change-init c =
    let first = c.of-change-items.ensures.first in
    let is = c.into_iter-change-iterator.ensures.into_iter_gives in
    let next : c.into_iter-change-iterator.result.next ≡ 0 = rw is first.1 in
    record {
      visits = rw is (visits_first first.0 first.1);
      applied = rw next (applied_none _ _ _ _ c.copy.ensures);
    }

pub overflow_mul-new : goal.overflow_mul-new
overflow_mul-new c =
    let ends = given_ends _ _ c.requires.sound c.loop-change.invariant.visits c.in-Some.ensures.steps in
    omega arith

pub overflow_add-new : goal.overflow_add-new
overflow_add-new c =
    let ends = given_ends _ _ c.requires.sound c.loop-change.invariant.visits c.in-Some.ensures.steps in
    omega arith

pub loop-change-preserved : goal.loop-change-preserved
loop-change-preserved c =
    let a = c.args in
    let at = c.loop-change in
    let visits = at.invariant.visits in
    let given = c.in-Some.ensures.steps in
    let k = at.change-iterator.next in
    let change = c.requires.sound k (visits_listed visits given) in
    record {
      visits = visits_next visits given;
      applied = rw given.next
          (applied_more a.n a.old.now a.list.now k (omega arith) change at.new at.invariant.applied
          c.in-Some.change (visits_entry visits given));
    }

pub returns-clause-cells : goal.returns-clause-cells
returns-clause-cells c =
    let a = c.args in
    let at = c.loop-change in
    let all = visits_all at.invariant.visits c.in-None.ensures.steps in
    applied_all a.n a.old.now a.list.now at.new (rw all at at.invariant.applied)
