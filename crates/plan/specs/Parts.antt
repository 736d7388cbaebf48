-- What the parts of Plan promise to each other; no other crate reads it.
--     is_rising, Finds        what is found of an input before it is planned (src/judging.rt)
--     area_refusal, length_refusal, direction_refusal      and the parts of the answer
--     are_listed_at_most      what is found of which way the metrics go (src/direction.rt)
--     RowCopied            a row of the old metrics, copied into the new table (src/metrics.rt)
--     started              the record of a plan, by the order of its change and what is due (`fresh` of src/lib.rt)
use Rattle.std.specs.Prelude.{ℕ, ◌%◌, ◌≤◌, ◌<◌, ◌≡◌, Bool, true, false, not, ◌||◌, ◌≢◌, List, leb, ltb, eqb, length}
use Rattle.area.specs.Limits.{width, unused, most_changes}
use Rattle.area.specs.Refusals.{router_count, table_size, bad_metric, incomplete, too_many}
use Rattle.area.specs.Refusals.{no_change, same_metric, mixed, no_step_time}
use Rattle.area.specs.Sizes.{is_router_count}
use Rattle.paths.specs.Paths.{are_metrics}
use Rattle.area.specs.Tests.{pick, all}
use Rattle.area.specs.Tables.{cell}
use Rattle.entries.specs.Entries.{entry_count, from, to}
use Rattle.topology.specs.Topology.{topology}
use Rattle.order.specs.declared.Order.{Order}
use Rattle.changes.specs.Root.{root}
use Rattle.plan.specs.declared.Record.{Record}
use Rattle.plan.specs.declared.judging.Judged.{Judged}
use Rattle.plan.specs.declared.direction.Direction.{Direction}
use Rattle.plan.specs.declared.direction.Direction.TheVariants.{Rise, Fall}
use Rattle.plan.specs.Direction.{is_same, is_rise, is_fall}
use Rattle.plan.specs.Plan.{zeros}

-- the direction is a rise
abbrev pub is_rising : (d : Direction) → Bool
is_rising Rise = true
is_rising Fall = false

-- the root of the change list l, and whether the metrics rise
abbrev pub Finds : (n : ℕ) (m l : List ℕ) (j : Judged) → Type 0
Finds n m l j = (j.root ≡ root l) × (is_rising j.direction ≡ is_rise n m l)

-- The parts of Plan's answer: the first refusal of the area, with its step time and the sizes of the tables; that of
-- the length of the change list; and that of which way the metrics go. 0 where there is none.
unfoldable pub area_refusal : (n s : ℕ) (m : List ℕ) (sized : Bool) → ℕ
area_refusal n s m sized =
    pick (not (is_router_count n)) router_count
    (pick (eqb s 0) no_step_time
    (pick (not sized) table_size
    (pick (not (are_metrics n m)) bad_metric
    0)))

unfoldable pub length_refusal : (l : List ℕ) → ℕ
length_refusal l =
    pick (not (eqb (length l % 5) 0)) incomplete
    (pick (ltb most_changes (entry_count l)) too_many
    (pick (eqb (entry_count l) 0) no_change
    0))

unfoldable pub direction_refusal : (n : ℕ) (m l : List ℕ) → ℕ
direction_refusal n m l =
    pick (is_same n m l) same_metric
    (pick (not (is_rise n m l || is_fall n m l)) mixed
    0)

-- n routers with the times h and s, the root c, the direction and order of the change and what is due: every router
-- idle, with nothing written and nothing learned
abbrev pub started : (n h s c : ℕ) (rising : Bool) (order : Order) (due : List ℕ) → Record
started n h s c rising order due = record {
  n = n;
  root = c;
  direction = pick rising 1 2;
  ranks = order.ranks;
  waiting = order.waiting;
  telling = order.telling;
  due = due;
  states = zeros;
  written = zeros;
  hold_time = h;
  step_time = s;
  clock = 0;
  learn_times = zeros;
}

-- the usable metric of (i, j) is not larger in the table m than in the table o
abbrev pub is_at_most : (n : ℕ) (m o : List ℕ) (i j : ℕ) → Bool
is_at_most n m o i j = leb (topology n m i j) (topology n o i j)

-- nor is that of any listed pair (src/direction.rt)
unfoldable pub are_listed_at_most : (n : ℕ) (m o l : List ℕ) → Bool
are_listed_at_most n m o l = all (entry_count l) (λ e. is_at_most n m o (from l e) (to l e))

-- Of the table t: row i has the metrics that m has from router i to the n routers, but `unused` for i itself. All else
-- is as it was.
pub record RowCopied (n : ℕ) (m : List ℕ) (i : ℕ) (was t : List ℕ) : Type 0 where
  pub size : length t ≡ length was
  pub own : cell width t i i ≡ unused
  pub row : (j : ℕ) → j < n → j ≢ i → cell width t i j ≡ cell width m i j
  pub beyond : (j : ℕ) → n ≤ j → j < width → cell width t i j ≡ cell width was i j
  pub others : (h j : ℕ) → h ≢ i → j < width → cell width t h j ≡ cell width was h j
