use Rattle.std.proofs.Common.{arith, rules}
use Rattle.sets.proofs.MembersLaws.{loop_turn, loop_end}
use Rattle.trees.proofs.Turning.{turning_none, room, turning_more, turned, all_found}
use Rattle.trees.proofs.column.Column.settle.Goals as goal

pub loop-q-init : goal.loop-q-init
loop-q-init c = turning_none _ _ _ _ _ _

pub relax-requires : goal.relax-requires
relax-requires c =
    let at = c.loop-q in
    let turn = loop_turn at.yielded _ _ c.args.next (search rules) at.yielded_by _ _ c.in-Some.ensures.steps in
    record {
      router = turn.inside;
      fits = room c.requires.done at.invariant turn c.without-ahead.ensures.set c.requires.fits;
    }

pub loop-q-preserved : goal.loop-q-preserved
loop-q-preserved c =
    let at = c.loop-q in
    let turn = loop_turn at.yielded _ _ c.args.next (search rules) at.yielded_by _ _ c.in-Some.ensures.steps in
    turning_more c.requires.done at.invariant turn c.without-ahead.ensures.set c.join-offered.ensures.set
    c.relax.ensures

pub returns : goal.returns
returns c =
    let at = c.loop-q in
    let none = c.in-None.ensures.steps.0 in
    let all = loop_end at.yielded _ _ c.args.next (search rules) at.yielded_by none (omega arith) in
    record { turned = turned at.invariant all; offered = all_found at.invariant all }
