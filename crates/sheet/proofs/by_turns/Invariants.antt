-- The places before k have their routers, and these are the set `placed`.
use Rattle.std.proofs.Common.{◌≡◌, get_or}
use Rattle.area.specs.Limits.{width}
use Rattle.area.proofs.PerRouterLaws.{Filled}
use Rattle.sheet.specs.Sheet.{placed, place_at}
use Rattle.sheet.proofs.by_turns.Given as goal

abbrev pub invariant-loop-k : goal.invariant-loop-k
invariant-loop-k l = record {
  are : l.placed ≡ placed l.n (λ r. get_or l.waiting r 0) l.k;
  filled : Filled width l.k (place_at l.n (λ r. get_or l.waiting r 0)) l.routers;
}
