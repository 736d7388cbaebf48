-- Demand 3, as a statement about a whole list of calls (01, "The steps"; 02, No. 9 and No. 10): `LoopFree`. It is
-- proved in LoopFreeLaws.antt (`loop_free`) for every input that Plan accepts and every list of calls that is covered
-- (`Covered`). HandedBack.antt says it of the tables and records that the code hands back.
-- There are n routers, the old metrics m and the change list l; `first` is the record that the first call gets.
use Rattle.std.specs.Prelude.{ℕ, ◌+◌, ◌-◌, ◌<◌, ◌≡◌, false, ◌≢◌, List, ◌∷◌}
use Rattle.area.specs.Limits.{unreached}
use Rattle.sets.specs.Sets.{set_of}
use Rattle.topology.specs.Topology.{topology}
use Rattle.topology.specs.Distance.{distance}
use Rattle.area.specs.Lists.{Distinct}
use Rattle.plan.specs.declared.Record.{Record}
use Rattle.plan.specs.NewMetrics.{new_metrics}
use Rattle.plan.specs.Waiting.{old_fours, new_fours}
use Rattle.convergence.specs.Pointers.{pointers, Along, Prolonged}
use Rattle.machine.specs.Machine.{written_of}
use Rattle.machine.specs.Run.{Call, run, has_tick, has_written}
use Rattle.machine.specs.Timely.{Timely, AfterEach}

-- Where each router points toward d after the calls: to its new set of four if it has written d, to its old one if not
-- (02, No. 9: these are what line cards hold).
abbrev pub points_to : (n : ℕ) (m l : List ℕ) (first : Record) (calls : List Call) (d : ℕ) → ℕ → ℕ
points_to n m l first calls d =
    pointers (λ r. old_fours n m r d) (λ r. new_fours n m l r d) (λ r. has_written first calls r d)

-- Router x reaches d in the topology of the metrics m: its distance there is not 4,294,967,295.
abbrev pub Reaches : (n : ℕ) (m : List ℕ) (x d : ℕ) → Type 0
Reaches n m x d = distance n (topology n m) x d ≢ unreached

-- The lists that it speaks of (02, No. 10): those that hold no tick; and those after every call of which learn times
-- lie at most S apart, no router is idle later than that, and each is done at most F after its due time, where F + S is
-- less than the step time. Which calls are made besides, and whose messages arrive, is left open.
pub data Covered (first : Record) (calls : List Call) : Type 0 where
  untimed : has_tick calls ≡ false → Covered first calls
  timed : (S F : ℕ) → F + S < first.step_time → AfterEach S F first calls → Covered first calls

-- What such a list comes to, by its last record alone: the clock stands where it stood, or no router is late.
pub data OnTime (last : Record) : Type 0 where
  stands : last.clock ≡ 0 → OnTime last
  in_time : (S F : ℕ) → F + S < last.step_time → Timely S F last → OnTime last

pub record LoopFree (n : ℕ) (metrics changes : List ℕ) (first : Record) (calls : List Call) : Type 0 where
  -- the written set of each router in the last record holds exactly the destinations that it has written
  pub written : (r : ℕ) → written_of (run first calls) r ≡ set_of n (has_written first calls r)
  -- no walk along the pointers meets a router twice
  pub no_router_twice : (d x : ℕ) (walk : List ℕ)
      → d < n
      → Along (points_to n metrics changes first calls d) x walk
      → Distinct (x ∷ walk)
  -- a walk that starts where d is reached in both topologies can be prolonged to d, with at most n - 1 links in all
  pub arrives : (d x : ℕ) (walk : List ℕ)
      → d < n
      → Reaches n metrics x d
      → Reaches n (new_metrics n metrics changes) x d
      → Along (points_to n metrics changes first calls d) x walk
      → Prolonged (points_to n metrics changes first calls d) (n - 1) d x walk
