-- `most` is above the ranks of the members that have come, and no more than is asked for.
use Rattle.std.proofs.Common.{◌<◌, ◌≤◌, ℕ, get_or}
use Rattle.area.specs.Lists.{◌∈◌}
use Rattle.ranks.specs.Rank.{above}
use Rattle.ranks.proofs.after.Given as goal

abbrev pub invariant-loop-s : goal.invariant-loop-s
invariant-loop-s l = record {
  come : (k : ℕ) → k ∈ l.yielded → k < l.n → get_or l.ranks k 0 < l.most;
  bound : l.most ≤ above l.n l.set (λ k. get_or l.ranks k 0);
}
