-- The members that have come are no nearer than `low`, and those at `low` are kept (`Seen`).
use Rattle.std.proofs.Common.{◌≡◌, ◌≢◌, ◌⊎◌, ◌≤◌, ℕ, List, [], true}
use Rattle.area.specs.Limits.{unreached}
use Rattle.area.specs.Lists.{◌∈◌}
use Rattle.sets.specs.Sets.{bit}
use Rattle.trees.specs.Turns.{entry}
use Rattle.trees.proofs.nearest.nearest.Given as goal

pub record Seen (d : List ℕ) (s least low : ℕ) (xs : List ℕ) : Type 0 where
  pub come : (k : ℕ) → k ∈ xs → low ≤ entry d k
  pub part : (k : ℕ) → bit least k ≡ true → (bit s k ≡ true) × (entry d k ≡ low)
  pub some : ((xs ≡ []) × (low ≡ unreached)) ⊎ (least ≢ 0)

abbrev pub invariant-loop-k : goal.invariant-loop-k
invariant-loop-k l = Seen l.dist l.set l.least l.low l.yielded
