-- Between two steps, the record at hand and the bytes that are left lead to the same last record as the first record
-- and all bytes.
use Rattle.std.proofs.Common.{◌≡◌, length}
use Rattle.machine.specs.Run.{run, calls_of}
use Rattle.steps.proofs.run.Given as goal

abbrev pub invariant-loop-left : goal.invariant-loop-left
invariant-loop-left l = run l.fn.first (calls_of l.fn.bytes) ≡ run l.last (calls_of l.left)

abbrev pub decreases-loop-left : goal.decreases-loop-left
decreases-loop-left l = length l.left
