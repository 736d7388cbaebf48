-- Less than 2,048 bytes are filled.
use Rattle.std.proofs.Common.{◌<◌}
use Rattle.isis_test.proofs.bytes.fill.Given as goal

abbrev pub invariant-loop-b : goal.invariant-loop-b
invariant-loop-b l = l.reading.length < 2048
