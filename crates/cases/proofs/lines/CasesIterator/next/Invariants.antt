-- Each turn takes a line off the text that is left, which is never longer than the text behind the case before.
use Rattle.std.proofs.Common.{◌≤◌, length}
use Rattle.cases.proofs.lines.CasesIterator.next.Given as goal

abbrev pub invariant-loop-line : goal.invariant-loop-line
invariant-loop-line l = length l.self.rest.now ≤ length l.fn.self.rest.now

abbrev pub decreases-loop-line : goal.decreases-loop-line
decreases-loop-line l = length l.self.rest.now
