-- The changes before e have no fault, and the sets hold their pairs.
use Rattle.std.proofs.Common.{◌≡◌, ℕ, ◌<◌}
use Rattle.entries.specs.Entries.{listed_refusal}
use Rattle.entries.specs.Seen.{Seen}
use Rattle.changes.proofs.checks.first_refusal.Given as goal

abbrev pub invariant-loop-e : goal.invariant-loop-e
invariant-loop-e l = record {
  pairs : Seen l.list l.e l.seen;
  sound : (k : ℕ) → k < l.e → listed_refusal l.n l.list k ≡ 0;
}
