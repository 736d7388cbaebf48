-- The sum stays small.
use Rattle.std.proofs.Common.{◌<◌}
use Rattle.cases.proofs.compare.checksum.Given as goal

abbrev pub invariant-loop-cell : goal.invariant-loop-cell
invariant-loop-cell l = l.sum < 1000003
