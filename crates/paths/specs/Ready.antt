use Rattle.std.specs.Prelude.{ℕ, ◌*◌, ◌≤◌, ◌≡◌, true, List, length}
use Rattle.area.specs.Limits.{width}
use Rattle.paths.specs.Paths.{PathTables, are_metrics}

-- n routers and a metric table that are not refused, whatever tables of the right size are lent
pub record Ready (n : ℕ) (m : List ℕ) : Type 0 where
  pub some : 1 ≤ n
  pub most : n ≤ width
  pub size : length m ≡ width * width
  pub metrics : are_metrics n m ≡ true

pub record SizedPaths (t : PathTables) : Type 0 where
  pub distances : length t.distances ≡ width * width
  pub hops : length t.hops ≡ width * width
  pub fours : length t.fours ≡ width * width
