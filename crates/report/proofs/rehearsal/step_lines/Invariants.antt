-- Between two steps: with the lines of the calls that are left, the text has all lines.
use Rattle.std.proofs.Common.{◌+◌, ◌≤◌, length}
use Rattle.machine.specs.Run.{replies, calls_of}
use Rattle.report.specs.Lines.{step_lines}
use Rattle.report.proofs.LineLaws.{Rest}
use Rattle.report.proofs.rehearsal.step_lines.Given as goal

abbrev pub invariant-loop-left : goal.invariant-loop-left
invariant-loop-left l = record {
  counted : l.k + length l.left ≤ length l.fn.bytes;
  rest :
      Rest l.fn.text (step_lines 1 (replies l.fn.fresh (calls_of l.fn.bytes))) l.text l.k l.current l.left;
}

abbrev pub decreases-loop-left : goal.decreases-loop-left
decreases-loop-left l = length l.left
