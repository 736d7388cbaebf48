-- `valid` is the test of the metrics before m.
use Rattle.std.proofs.Common.{◌≡◌, get_or}
use Rattle.area.specs.Tests.{all}
use Rattle.paths.specs.Paths.{in_range}
use Rattle.paths.proofs.metrics.are_in_range.Given as goal

abbrev pub invariant-loop-m : goal.invariant-loop-m
invariant-loop-m l = l.valid ≡ all l.m-index (λ k. in_range (get_or l.metrics k 0))
