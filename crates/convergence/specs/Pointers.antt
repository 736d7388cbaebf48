-- Forwarding pointers toward one destination, and walks along them (01, "The steps").
use Rattle.std.specs.Prelude.{ℕ, ◌≤◌, ◌≡◌, Bool, true, List, [], ◌∷◌, ◌++◌, length}
use Rattle.area.specs.Tests.{pick}
use Rattle.area.specs.Lists.{Distinct}
use Rattle.sets.specs.Sets.{bit}

-- for each router the set of the routers that it points to
abbrev pub Pointers : Type 0
Pointers = ℕ → ℕ

-- A router points to its new set once it has written the destination, and to its old set before.
abbrev pub pointers : (old new : Pointers) (wrote : ℕ → Bool) → Pointers
pointers old new wrote r = pick (wrote r) (new r) (old r)

-- A walk along the pointers p: it starts at x and goes on to the routers of l, each in the set that the one before it
-- points to. It has a link for each router of l, perhaps none. `Unit` always holds.
abbrev pub Along : (p : Pointers) (x : ℕ) (l : List ℕ) → Type 0
Along p x [] = Unit {0}
Along p x (y ∷ l) = (bit (p x) y ≡ true) × Along p y l

-- the router at which it stands in the end
abbrev pub last : (x : ℕ) (l : List ℕ) → ℕ
last x [] = x
last x (y ∷ l) = last y l

-- no walk along the pointers meets a router twice
abbrev pub NoRouterTwice : (p : Pointers) → Type 0
NoRouterTwice p = (x : ℕ) (l : List ℕ) → Along p x l → Distinct (x ∷ l)

-- The walk from x over l can be prolonged to one that stands at d, with at most `most` links in all.
pub record Prolonged (p : Pointers) (most d x : ℕ) (l : List ℕ) : Type 0 where
  pub rest : List ℕ
  pub along : Along p x (l ++ rest)
  pub ends : last x (l ++ rest) ≡ d
  pub short : length (l ++ rest) ≤ most
