-- The links that were given have no fault, and the sets hold their pairs.
use Rattle.std.proofs.Common.{◌≡◌, ℕ, ◌<◌}
use Rattle.entries.specs.Seen.{Seen}
use Rattle.entries.proofs.EachLaws.{Visits}
use Rattle.bench_file.specs.Faults.{link_refusal}
use Rattle.bench_file.proofs.faults.links.Given as goal

abbrev pub invariant-loop : goal.invariant-loop
invariant-loop l = record {
  visits : Visits l.list l.entries;
  next : l.entries.next ≡ l.counter;
  seen : Seen l.list l.counter l.seen;
  none : (k : ℕ) → k < l.counter → link_refusal l.format l.n l.list k ≡ 0;
}
