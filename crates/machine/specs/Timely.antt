-- What is supposed of a list of calls that holds ticks (02, No. 10): no router is late. Learn times are those of
-- routers that have learned of the change, which are those that are not idle.
--     Timely       the three suppositions, of one record
--     AfterEach    and after every call of a list
use Rattle.std.specs.Prelude.{ℕ, ◌+◌, ◌≤◌, ◌<◌, ◌≡◌, ◌≢◌, List, [], ◌∷◌}
use Rattle.plan.specs.declared.Record.{Record}
use Rattle.machine.specs.Machine.{idle, done, state_of, learn_time, due_time}
use Rattle.machine.specs.Run.{Call, step}

-- S is how far learn times may lie apart, and F how long after its due time a router may need until it is done.
pub record Timely (S F : ℕ) (r : Record) : Type 0 where
  -- any two learn times differ by at most S
  pub together :
      (x y : ℕ) → x < r.n → y < r.n → state_of r x ≢ idle → state_of r y ≢ idle
      → learn_time r x ≤ learn_time r y + S
  -- once the clock is past the first learn time plus S, no router is idle; it is past that of the first router that
  -- learned where it is past that of any router y that has learned
  pub awake :
      (x y : ℕ) → x < r.n → y < r.n → state_of r y ≢ idle → learn_time r y + S < r.clock
      → state_of r x ≢ idle
  -- once the clock is past its due time plus F, a router that has learned is done
  pub prompt : (x : ℕ) → x < r.n → state_of r x ≢ idle → due_time r x + F < r.clock → state_of r x ≡ done

-- it is so after every call of the list, of which the first gets r
abbrev pub AfterEach : (S F : ℕ) (r : Record) (calls : List Call) → Type 0
AfterEach S F r [] = Unit {0}
AfterEach S F r (c ∷ cs) = Timely S F (step r c).next × AfterEach S F (step r c).next cs
