-- The loop keeps the nearest router of those that it has looked at: `low` is the least distance of a router below k
-- that is not settled, and `best` is that router.
use Rattle.std.proofs.Common.{◌≡◌, ℕ, ◌<◌, ◌≤◌, ◌⊎◌, false, get_or}
use Rattle.area.specs.Limits.{unreached}
use Rattle.sets.specs.Sets.{bit}
use Rattle.search.proofs.nearest.nearest.Given as goal

abbrev pub invariant-loop-k : goal.invariant-loop-k
invariant-loop-k l = record {
  cap : l.low ≤ unreached;
  first : (j : ℕ) → j < l.k → bit l.settled j ≡ false → l.low ≤ get_or l.dist j 0;
  is :
      ((l.best ≡ l.n) × (l.low ≡ unreached))
      ⊎ ((l.best < l.n)
      × (l.low ≡ get_or l.dist l.best 0)
      × (bit l.settled l.best ≡ false)
      × (l.low < unreached));
}
