-- What is promised of pointers while routers write in order (01, "The steps", what demand 3 says of walks).
use Rattle.std.specs.Prelude.{ℕ, ◌-◌, ◌<◌, List}
use Rattle.area.specs.Limits.{unreached}
use Rattle.topology.specs.Topology.{Topology}
use Rattle.topology.specs.Distance.{distance}
use Rattle.convergence.specs.Pointers.{Pointers, Along, NoRouterTwice, Prolonged}

-- What is promised of pointers p toward d: no walk along them meets a router twice, and from a router that reaches d in
-- both topologies each can be prolonged to d.
pub record Safe (n d : ℕ) (lo hi : Topology) (p : Pointers) : Type 0 where
  pub no_router_twice : NoRouterTwice p
  pub arrives :
      (x : ℕ) (l : List ℕ)
      → distance n lo x d < unreached
      → distance n hi x d < unreached
      → Along p x l
      → Prolonged p (n - 1) d x l
