-- Demand 3 in terms of what the code hands back (01, "The steps"): the tables that Plan leaves and the records that the
-- calls give. It is proved in HandedBackLaws.antt (`handed_back_free`).
--     After            a record comes after the first one, by calls of the code
--     points_by         where each router points, read off the tables and the last record
--     LoopFreeBy       demand 3, said of these
use Rattle.std.specs.Prelude.{ℕ, ◌-◌, ◌<◌, ◌≡◌, ◌≢◌, List, ◌∷◌}
use Rattle.area.specs.Limits.{width, unreached}
use Rattle.area.specs.Lists.{Distinct}
use Rattle.area.specs.Tables.{cell}
use Rattle.sets.specs.Sets.{bit}
use Rattle.plan.specs.declared.Record.{Record}
use Rattle.plan.specs.Plan.{Tables}
use Rattle.convergence.specs.Pointers.{pointers, Along, Prolonged}
use Rattle.machine.specs.Answers.{Reply, gives}
use Rattle.machine.specs.Machine.{step_of, written_of}
use Rattle.machine.specs.Run.{run, calls_of}

-- The record `last` comes after `first`: by any number of calls, in any order, each on the record that the one before
-- it handed back or left in place.
pub data After (first : Record) : Record → Type 0 where
  -- no call
  none : After first first
  -- One step: by `step` or another method of `Machine`, by `in_place::apply` or `in_place::applied`, or by `Lent::step`
  -- on the record's tables. The premise is the line `ensures outcome` of each: `outcome_of r`, where it says so, is
  -- `gives r.next (reply_of r.answer)`.
  stepped : {now next : Record} {reply : Reply} (kind a b : ℕ)
      → After first now
      → gives next reply ≡ step_of now kind a b
      → After first next
  -- The steps of any list of bytes: by `steps::run`. The premise is its line `ensures last`.
  ran : {now last : Record} (bytes : List ℕ)
      → After first now
      → last ≡ run now (calls_of bytes)
      → After first last

-- Where each router points toward d: to the set in its row of the new table of sets of four if d is in its written set,
-- and to that in its row of the old one if not. `left` are the tables that Plan left.
abbrev pub points_by : (left : Tables) (last : Record) (d : ℕ) → ℕ → ℕ
points_by left last d =
    pointers (λ r. cell width left.old.fours r d) (λ r. cell width left.new.fours r d)
    (λ r. bit (written_of last r) d)

-- Demand 3, among n routers, where Plan left the tables `left` and the last call the record `last`.
pub record LoopFreeBy (n : ℕ) (left : Tables) (last : Record) : Type 0 where
  -- no walk along the pointers meets a router twice
  pub no_router_twice : (d x : ℕ) (walk : List ℕ)
      → d < n
      → Along (points_by left last d) x walk
      → Distinct (x ∷ walk)
  -- a walk that starts where both distance tables say that d is reached can be prolonged to d, with at most n - 1 links
  -- in all
  pub arrives : (d x : ℕ) (walk : List ℕ)
      → d < n
      → x < n
      → cell width left.old.distances x d ≢ unreached
      → cell width left.new.distances x d ≢ unreached
      → Along (points_by left last d) x walk
      → Prolonged (points_by left last d) (n - 1) d x walk
