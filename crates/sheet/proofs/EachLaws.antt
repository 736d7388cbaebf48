-- Laws of a list of calls for each of some routers, as a loop makes it.
--     each_none, each_more         no list, and one list more
use Rattle.std.specs.Prelude.{ℕ, ◌+◌, ◌≡◌, List, [], ◌++◌}
use Rattle.std.proofs.Math.Path.{refl}
use Rattle.std.proofs.Math.Numerals.{add-one}
use Rattle.machine.specs.Run.{Call}
use Rattle.sheet.specs.Follow.{each}

module _ (f : ℕ → List Call) where
  pub each_none : each 0 f ≡ []
  unfolding each
  each_none = refl

  pub each_more : (k : ℕ) → each (k + 1) f ≡ each k f ++ f k
  unfolding each
  each_more k = rw add-one refl
