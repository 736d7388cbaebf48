-- At most as many links are put as cells are passed.
use Rattle.std.proofs.Common.{◌≤◌}
use Rattle.report_test.proofs.by_words.links.Given as goal

abbrev pub invariant-loop-k : goal.invariant-loop-k
invariant-loop-k l = l.e ≤ l.k
