-- `kept` is the number of the live links before the next one.
use Rattle.std.proofs.Common.{◌≡◌, ◌≤◌}
use Rattle.entries.proofs.EachLaws.{Visits}
use Rattle.rewriting.specs.Live.{live_count}
use Rattle.rewriting.proofs.count_live.Given as goal

abbrev pub invariant-loop-link : goal.invariant-loop-link
invariant-loop-link l = record {
  can : (goal.iterator-loop-link).can_next l.link-iterator;
  finite : (goal.iterator-loop-link).is_finite l.link-iterator;
  visits : Visits l.links l.link-iterator;
  counted : l.kept ≡ live_count l.links l.link-iterator.next;
  few : l.kept ≤ l.link-iterator.next;
}
