-- The links that were given are put in (proofs/Linking.antt), and those that are left are the others.
use Rattle.std.proofs.Common.{◌≡◌, ◌+◌}
use Rattle.entries.proofs.EachLaws.{Visits}
use Rattle.bench_file.proofs.Linking.{Linked}
use Rattle.bench_file.proofs.metrics.put.Given as goal

abbrev pub invariant-loop-link : goal.invariant-loop-link
invariant-loop-link l =
    let entries = l.link-iterator.iter in
    record {
      visits : Visits l.list entries;
      left : entries.next + l.link-iterator.n ≡ l.links;
      linked : Linked l.list entries.next l.table;
    }
