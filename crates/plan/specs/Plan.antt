-- Plan (01, "The plan"): its answer, the record that it hands back, and what its tables hold when it returns, on every
-- input. n is the number of routers, h the hold time and s the step time of the rank timers, m the old metric table,
-- l the change list. `Record` is the struct of src/lib.rt, each array as a list.
use Rattle.std.specs.Prelude.{ℕ, ◌%◌, Bool, not, ◌&&◌, ◌||◌, List, ltb, eqb, length, replicate}
use Rattle.area.specs.Limits.{width, most_changes}
use Rattle.area.specs.Refusals.{router_count, table_size, bad_metric, incomplete, too_many}
use Rattle.area.specs.Refusals.{no_change, same_metric, mixed, no_common_router, no_step_time}
use Rattle.area.specs.Tests.{pick, or_then, first}
use Rattle.area.specs.Tables.{per_router}
use Rattle.area.specs.Sizes.{is_router_count, is_table}
use Rattle.paths.specs.declared.Topology.{Topology}
use Rattle.paths.specs.Paths.{PathTables, paths_in, held, are_paths, are_metrics, filled_paths}
use Rattle.ranks.specs.Rank.{rank}
use Rattle.entries.specs.Entries.{entry_count, listed_refusal}
use Rattle.changes.specs.Root.{is_common, root}
use Rattle.plan.specs.declared.Record.{Record}
use Rattle.plan.specs.declared.Change.{Change}
use Rattle.plan.specs.NewMetrics.{new_metrics}
use Rattle.plan.specs.Direction.{is_same, is_rise, is_fall}
use Rattle.plan.specs.Waiting.{waiting, telling, due}

-- the tables that Plan is lent and fills: the new metrics, and the paths of the old and of the new topology
pub record Tables : Type 0 where
  pub metrics : List ℕ
  pub old : PathTables
  pub new : PathTables

-- what seven lent slices hold
abbrev pub tables_in :
    (metrics old_distances old_hops old_fours new_distances new_hops new_fours : List ℕ) → Tables
tables_in m od oh of nd nh nf = record { metrics = m; old = paths_in od oh of; new = paths_in nd nh nf }

-- what they hold, where the tables of each topology are lent together
abbrev pub tables_held : (metrics : List ℕ) (old new : Topology) → Tables
tables_held m o n = record { metrics = m; old = held o; new = held n }

-- the old metric table and each of those have the right size
unfoldable pub are_tables : (m : List ℕ) (t : Tables) → Bool
are_tables m t = is_table m && (is_table t.metrics && (are_paths t.old && are_paths t.new))

-- The number of the first refusal of the area and its change that applies; 0 where there is none. 01 has them in this
-- order: the three that Paths has too, then the length of the list and the number of its entries, then that of the
-- first faulty entry (`listed_refusal`), and last those of the changes together, of which 02, No. 4, has put 11 first.
-- `sized` says that the tables have the right size.
unfoldable pub change_refusal : (n : ℕ) (m l : List ℕ) (sized : Bool) → ℕ
change_refusal n m l sized =
    pick (not (is_router_count n)) router_count
    (pick (not sized) table_size
    (pick (not (are_metrics n m)) bad_metric
    (pick (not (eqb (length l % 5) 0)) incomplete
    (pick (ltb most_changes (entry_count l)) too_many
    (pick (eqb (entry_count l) 0) no_change
    (or_then (first (entry_count l) (listed_refusal n l))
    (pick (is_same n m l) same_metric
    (pick (not (is_rise n m l || is_fall n m l)) mixed
    (pick (not (is_common l (root l))) no_common_router
    0)))))))))

-- The number of the first refusal that applies; 0 where the input is planned. To those of the change comes one of the
-- step time, after that of n (02, No. 10).
unfoldable pub plan_refusal : (n s : ℕ) (m l : List ℕ) (sized : Bool) → ℕ
plan_refusal n s m l sized = pick (is_router_count n && eqb s 0) no_step_time (change_refusal n m l sized)

-- the input is planned, that is, none of the refusals is given
unfoldable pub is_planned : (n s : ℕ) (m l : List ℕ) (t : Tables) → Bool
is_planned n s m l t = eqb (plan_refusal n s m l (are_tables m t)) 0

-- 0 for every router
abbrev pub zeros : List ℕ
zeros = replicate width 0

-- The record before the first step: 1 for a rise and 2 for a fall; every router idle, with nothing written; the clock
-- and all learn times at 0.
unfoldable pub fresh : (n h s : ℕ) (m l : List ℕ) → Record
fresh n h s m l =
    record {
      n = n;
      root = root l;
      direction = pick (is_rise n m l) 1 2;
      ranks = per_router width n (rank n (waiting n m l));
      waiting = per_router width n (waiting n m l);
      telling = per_router width n (telling n m l);
      due = per_router width n (due n m l);
      states = zeros;
      written = zeros;
      hold_time = h;
      step_time = s;
      clock = 0;
      learn_times = zeros;
    }

-- the record of a refusal
unfoldable pub blank : Record
blank = record {
  n = 0;
  root = 0;
  direction = 0;
  ranks = zeros;
  waiting = zeros;
  telling = zeros;
  due = zeros;
  states = zeros;
  written = zeros;
  hold_time = 0;
  step_time = 0;
  clock = 0;
  learn_times = zeros;
}

-- the tables of an input that is planned
unfoldable pub filled : (n : ℕ) (m l : List ℕ) → Tables
filled n m l =
    record {
      metrics = new_metrics n m l;
      old = filled_paths n m;
      new = filled_paths n (new_metrics n m l);
    }

-- What Plan hands back and leaves, where t are the tables as it was lent them: a refusal hands back zeros and leaves
-- every table as it was.
unfoldable pub record_of : (n h s : ℕ) (m l : List ℕ) (t : Tables) → Record
record_of n h s m l t = pick (is_planned n s m l t) (fresh n h s m l) blank

unfoldable pub tables_of : (n s : ℕ) (m l : List ℕ) (t : Tables) → Tables
tables_of n s m l t = pick (is_planned n s m l t) (filled n m l) t

-- the same by the struct that Plan takes
abbrev pub refusal_of : (c : Change) (t : Tables) → ℕ
refusal_of c t = plan_refusal c.n c.step_time c.metrics.now c.list.now (are_tables c.metrics.now t)

abbrev pub record_by : (c : Change) (t : Tables) → Record
record_by c t = record_of c.n c.hold_time c.step_time c.metrics.now c.list.now t

abbrev pub tables_by : (c : Change) (t : Tables) → Tables
tables_by c t = tables_of c.n c.step_time c.metrics.now c.list.now t
