-- Who waits for whom, who tells whom, and what is due (01, "The plan"), in an area of n routers with the old metrics m
-- and the change list l.
use Rattle.std.specs.Prelude.{ℕ, List}
use Rattle.area.specs.Limits.{width}
use Rattle.sets.specs.Four.{four}
use Rattle.topology.specs.Topology.{topology}
use Rattle.topology.specs.NextHops.{next_hops}
use Rattle.order.specs.Order.{waiting_by, telling_by, due_by}
use Rattle.changes.specs.Root.{root}
use Rattle.plan.specs.NewMetrics.{new_metrics}
use Rattle.plan.specs.Direction.{is_rise}

-- the next hops from i to j before the change, and after it
unfoldable pub old_hops : (n : ℕ) (m : List ℕ) (i j : ℕ) → ℕ
old_hops n m i j = next_hops width n (topology n m) i j

unfoldable pub new_hops : (n : ℕ) (m l : List ℕ) (i j : ℕ) → ℕ
new_hops n m l i j = next_hops width n (topology n (new_metrics n m l)) i j

-- the set of four that is written for (i, j), before the change and after it (02, No. 9)
unfoldable pub old_fours : (n : ℕ) (m : List ℕ) (i j : ℕ) → ℕ
old_fours n m i j = four width (old_hops n m i j)

unfoldable pub new_fours : (n : ℕ) (m l : List ℕ) (i j : ℕ) → ℕ
new_fours n m l i j = four width (new_hops n m l i j)

-- The routers that r waits for and those that it tells, by all next hops, and the destinations that are due at it, by
-- the sets of four: crate order defines them by such sets.
unfoldable pub waiting : (n : ℕ) (m l : List ℕ) (r : ℕ) → ℕ
waiting n m l r = waiting_by n (root l) (is_rise n m l) (old_hops n m) (new_hops n m l) r

unfoldable pub telling : (n : ℕ) (m l : List ℕ) (r : ℕ) → ℕ
telling n m l r = telling_by n (waiting n m l) r

unfoldable pub due : (n : ℕ) (m l : List ℕ) (r : ℕ) → ℕ
due n m l r = due_by n (old_fours n m) (new_fours n m l) r
