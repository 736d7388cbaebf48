use Rattle.std.proofs.Common.{ℕ, ◌+◌, ◌≡◌, ◌≢◌, List, ap, sym, ◌∙◌, arith, eq-eqb, ne_eqb}
use Rattle.area.specs.Limits.{unused}
use Rattle.entries.specs.declared.Entry.{Entry}
use Rattle.entries.specs.Entries.{entry_of, metric}
use Rattle.entries.proofs.EntryLaws.{read_metric}
use Rattle.entries.proofs.EachLaws.{visits_first, visits_listed, visits_entry, visits_next, visits_all}
use Rattle.rewriting.specs.Live.{live_count}
use Rattle.rewriting.proofs.LiveLaws.{count_none, count_kept, count_dropped}
use Rattle.rewriting.proofs.count_live.Goals as goal

-- one link more, by what the iterator gave for it
module _ (l : List ℕ) (e c : ℕ) (is : c ≡ live_count l e) (x : Entry) (read : x ≡ entry_of l e) where
  more : x.metric ≢ unused → c + 1 ≡ live_count l (e + 1)
  more m = count_kept l e c is (ne_eqb (metric l e) unused (λ q. m (read_metric read ∙ q)))

  less : x.metric ≡ unused → c ≡ live_count l (e + 1)
  less m = count_dropped l e c is (eq-eqb (metric l e) unused (sym (read_metric read) ∙ m))

pub loop-link-init : goal.loop-link-init
loop-link-init c =
    let first = c.of-link-items.ensures.first in
    let same = c.into_iter-link-iterator.ensures.into_iter_gives in
    record {
      can = tt;
      finite = tt;
      visits = rw same (visits_first first.0 first.1);
      counted = rw (same, first.1) (count_none c.args.links.now);
      few = omega arith;
    }

pub overflow_add-kept : goal.overflow_add-kept
overflow_add-kept c =
    omega (arith, visits_listed c.loop-link.invariant.visits c.in-Some.ensures.steps, c.requires)

pub loop-link-preserved-then-link-ne-UNUSED : goal.loop-link-preserved-then-link-ne-UNUSED
loop-link-preserved-then-link-ne-UNUSED c =
    let gives = c.in-Some.ensures.steps in
    let visits = c.loop-link.invariant.visits in
    let counted = more _ _ _ c.loop-link.invariant.counted _ (visits_entry visits gives) c.if-link-ne-UNUSED.true in
    record {
      can = tt;
      finite = tt;
      visits = visits_next visits gives;
      counted = rw gives.next counted;
      few = omega (arith, gives.next);
    }

pub loop-link-preserved : goal.loop-link-preserved
loop-link-preserved c =
    let gives = c.in-Some.ensures.steps in
    let visits = c.loop-link.invariant.visits in
    let counted = less _ _ _ c.loop-link.invariant.counted _ (visits_entry visits gives) c.if-link-ne-UNUSED.false in
    record {
      can = tt;
      finite = tt;
      visits = visits_next visits gives;
      counted = rw gives.next counted;
      few = omega (arith, gives.next);
    }

pub returns : goal.returns
returns c =
    let all = visits_all c.loop-link.invariant.visits c.in-None.ensures.steps in
    (c.loop-link.invariant.counted ∙ ap (live_count c.args.links.now) all, omega (arith, all))
