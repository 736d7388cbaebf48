-- The sum is a remainder.
use Rattle.std.proofs.Common.{◌<◌}
use Rattle.report_test.proofs.summary.checksum.Given as goal

abbrev pub invariant-loop-b : goal.invariant-loop-b
invariant-loop-b l = l.sum < 4294967291
