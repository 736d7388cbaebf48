-- The bytes of the steps end at 192 or before.
use Rattle.std.proofs.Common.{◌≤◌}
use Rattle.steps_test.proofs.taking.steps.Given as goal

abbrev pub invariant-loop-k : goal.invariant-loop-k
invariant-loop-k l = l.end ≤ 192
