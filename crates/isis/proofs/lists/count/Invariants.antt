-- The lists that have begun, and those that are left, are all lists.
use Rattle.std.proofs.Common.{◌≡◌, ◌+◌, ◌≤◌, length}
use Rattle.isis.specs.Lists.{list_count}
use Rattle.isis.proofs.lists.count.Given as goal

abbrev pub invariant-loop-rest : goal.invariant-loop-rest
invariant-loop-rest l = record {
  few : l.begun + length l.rest ≤ length l.lists;
  all : l.begun + list_count l.rest ≡ list_count l.lists;
}

abbrev pub decreases-loop-rest : goal.decreases-loop-rest
decreases-loop-rest l = length l.rest
