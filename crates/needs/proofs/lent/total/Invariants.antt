-- What the routers before x count is summed.
use Rattle.std.proofs.Common.{ℕ, ◌≡◌, ◌*◌, ◌≤◌}
use Rattle.area.specs.Limits.{width}
use Rattle.sets.specs.Counts.{total}
use Rattle.needs.proofs.lent.total.Given as goal

abbrev pub invariant-loop-x : goal.invariant-loop-x
invariant-loop-x g l = record {
  bound : l.count ≤ width * l.x;
  sum : (f : ℕ → ℕ) → ((x y : ℕ) → goal.F-post g l.fn.of x y → y ≡ f x) → l.count ≡ total l.x f;
}
