-- counter - 1 rounds are made, and no more than n - 1.
use Rattle.std.proofs.Common.{get_or, ◌-◌, ◌≤◌}
use Rattle.area.specs.Limits.{width}
use Rattle.ranks.proofs.Rounds.{Made}
use Rattle.ranks.proofs.by_rounds.Given as goal

abbrev pub invariant-loop : goal.invariant-loop
invariant-loop l = record {
  few : l.counter - 1 ≤ l.n - 1;
  made : Made width l.n (λ r. get_or l.waiting r 0) (l.counter - 1) l.ranks;
}
