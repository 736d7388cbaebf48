-- Walks over the used links of a topology g (01, "The area and its paths").
-- A link from i to k is used where its metric g i k is below `unused`.
use Rattle.std.specs.Prelude.{ℕ, suc, ◌+◌, ◌<◌, List, [], ◌∷◌}
use Rattle.area.specs.Limits.{unused}
use Rattle.topology.specs.Topology.{Topology}

-- A walk from i to j: to stay, or to take a used link from i and walk on.
pub data Walk (g : Topology) : (i j : ℕ) → Type 0 where
  stay : {i : ℕ} → Walk g i i
  link : {i k j : ℕ} → g i k < unused → Walk g k j → Walk g i j

module _ {g : Topology} where
  -- the sum of its metrics
  abbrev pub sum : {i j : ℕ} → Walk g i j → ℕ
  sum stay = 0
  sum (link {i} {k} u w) = g i k + sum w

  -- how many links it takes
  abbrev pub links : {i j : ℕ} → Walk g i j → ℕ
  links stay = 0
  links (link u w) = suc (links w)

  -- the routers that it meets, the first and the last too
  abbrev pub routers : {i j : ℕ} → Walk g i j → List ℕ
  routers (stay {i}) = i ∷ []
  routers (link {i} u w) = i ∷ routers w
