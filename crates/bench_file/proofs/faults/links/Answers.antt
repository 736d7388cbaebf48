-- The loop over the links: what `link` says of one is its refusal, by the pairs of those before it.
use Rattle.std.proofs.Common.{arith, rules, ◌∙◌, ap}
use borrow.Author.Count.{below_none, below_more}
use Rattle.area.proofs.RefusalLaws.{refusal_positive}
use Rattle.area.proofs.TestLaws.{first_none, first_fault}
use Rattle.entries.specs.Entries.{entry_of}
use Rattle.entries.proofs.EachLaws.{visits_first, visits_next, visits_listed, visits_entry, visits_all}
use Rattle.entries.proofs.SeenLaws.{seen_none, seen_next}
use Rattle.bench_file.specs.Faults.{link_refusal}
use Rattle.bench_file.proofs.FaultLaws.{link_cut}
use Rattle.bench_file.proofs.Pairs.{link_told}
use Rattle.bench_file.proofs.faults.links.Goals as goal

pub loop-init : goal.loop-init
loop-init c =
    let start = c.of-entries.ensures.first in
    record { visits = visits_first start.0 start.1; next = start.1; seen = seen_none _; none = below_none _ }

pub returns-in_default : goal.returns-in_default
returns-in_default c =
    let a = c.args in
    let all = visits_all c.loop.invariant.visits c.in_default.ensures.steps in
    let cut = link_cut a.format a.n a.list.now c.loop.counter (omega (arith, all)) in
    let first = first_fault (link_refusal a.format a.n a.list.now) c.loop.counter a.announced (omega arith) in
    grind (arith, cut, first)

pub returns-in_err-link : goal.returns-in_err-link
returns-in_err-link c =
    let a = c.args in
    let before = c.loop.invariant in
    let step = c.in-Some.ensures.steps in
    let here = visits_entry before.visits step ∙ ap (entry_of a.list.now) before.next in
    let told = link_told a.format a.n a.list.now c.loop.counter c.loop.seen c.requires before.seen
    c.in-Some.entry here (omega (arith, visits_listed before.visits step)) in
    let first = first_fault (link_refusal a.format a.n a.list.now) c.loop.counter a.announced (omega arith) in
    grind (arith, told, first, refusal_positive c.in_err-link.field-0.0)

pub loop-preserved : goal.loop-preserved
loop-preserved c =
    let a = c.args in
    let before = c.loop.invariant in
    let step = c.in-Some.ensures.steps in
    let here = visits_entry before.visits step ∙ ap (entry_of a.list.now) before.next in
    let told = link_told a.format a.n a.list.now c.loop.counter c.loop.seen c.requires before.seen
    c.in-Some.entry here (omega (arith, visits_listed before.visits step)) in
    record {
      visits = visits_next before.visits step;
      next = omega (arith, step.next);
      seen =
          seen_next a.list.now c.loop.counter c.loop.seen before.seen c.in-Some.entry here (search rules) c.add.result
          c.add.ensures.set;
      none = below_more _ c.loop.counter before.none (grind (arith, told));
    }

pub returns : goal.returns
returns c = grind (arith, first_none (link_refusal c.args.format c.args.n c.args.list.now) c.args.announced)
