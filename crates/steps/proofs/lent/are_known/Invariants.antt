-- The largest of the states so far is known exactly if all of them are.
use Rattle.std.proofs.Common.{ℕ, ◌≤◌, ◌<◌, get_or}
use Rattle.machine.specs.Machine.{done}
use Rattle.steps.proofs.lent.are_known.Given as goal

abbrev pub invariant-loop-state : goal.invariant-loop-state
invariant-loop-state l =
    ((k : ℕ) → k < l.state-index → get_or l.states k 0 ≤ l.largest)
    × (((k : ℕ) → k < l.state-index → get_or l.states k 0 ≤ done) → l.largest ≤ done)
