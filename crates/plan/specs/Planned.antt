-- What is known of an input where some refusals are not given.
--     Listed       the list has from 1 to `most_changes` whole entries: the refusals of its changes are left
--     Sized        every table has the right size
--     Plan         none of 01's conditions for a refusal of n, metrics and changes holds
use Rattle.std.specs.Prelude.{ℕ, ◌*◌, ◌%◌, ◌≤◌, ◌<◌, ◌≡◌, true, false, ◌≢◌, ◌⊎◌, List, length}
use Rattle.area.specs.Limits.{width, most_changes}
use Rattle.entries.specs.Entries.{entry_count}
use Rattle.paths.specs.Ready.{Ready, SizedPaths}
use Rattle.changes.specs.Root.{is_common, root}
use Rattle.changes.specs.Sound.{Sound}
use Rattle.plan.specs.Direction.{is_same, is_rise, is_fall}
use Rattle.plan.specs.Plan.{Tables}

pub record Listed (n : ℕ) (m l : List ℕ) : Type 0 where
  pub ready : Ready n m
  pub whole : length l % 5 ≡ 0
  pub most : entry_count l ≤ most_changes
  pub some : entry_count l ≢ 0

pub record Sized (m : List ℕ) (t : Tables) : Type 0 where
  pub given : length m ≡ width * width
  pub metrics : length t.metrics ≡ width * width
  pub old : SizedPaths t.old
  pub new : SizedPaths t.new

pub record Plan (n : ℕ) (m l : List ℕ) : Type 0 where
  pub ready : Ready n m
  pub whole : length l % 5 ≡ 0
  pub most : entry_count l ≤ most_changes
  pub some : 0 < entry_count l
  pub sound : Sound n l
  pub effect : is_same n m l ≡ false
  pub way : (is_rise n m l ≡ true) ⊎ (is_fall n m l ≡ true)
  pub common : is_common l (root l) ≡ true
