-- One router, entered at each member of its set (`enter` of src/waiting.rt).
use Rattle.std.specs.Prelude.{ℕ, ◌<◌, ◌≡◌, true, List, length, get_or}
use Rattle.sets.specs.Sets.{bit, added}

-- x is the set of router s. At each member of x below n the table t has s beside what `was` had there.
pub record Entered (w n x s : ℕ) (was t : List ℕ) : Type 0 where
  pub size : length t ≡ length was
  pub held : (r : ℕ) → r < n → bit x r ≡ true → get_or t r 0 ≡ added w (get_or was r 0) s
  pub kept : (r : ℕ) → ((r < n) × (bit x r ≡ true) → ⊥) → get_or t r 0 ≡ get_or was r 0
