-- The members of a set, one after another.
use Rattle.std.specs.Prelude.{ℕ, zero, suc, List, [], ◌∷◌, ◌++◌}
use Rattle.area.specs.Tests.{pick}
use Rattle.sets.specs.Sets.{bit}

-- the routers below w that are members of s, the lowest first
unfoldable pub members : (w s : ℕ) → List ℕ
members zero s = []
members (suc w) s = members w s ++ pick (bit s w) (w ∷ []) []
