-- Demand 3 on three routers: two changes that Plan accepts, calls in order, and the loops that the order rules out. All
-- of it is computed from the definitions. C1 is a rise, 1–2 goes down; C2 is a fall, 1–2 comes up at 1. Every link
-- goes both ways, and the root is 1 in both.
--
--         0               0
--      1 / \ 3         1 / \ 3
--       /   \           /   \
--      1 --- 2         1     2
--         1
--       C1              C2
use Rattle.std.specs.Prelude.{ℕ, ◌+◌, ◌-◌, ◌*◌, ◌≡◌, refl, true, false, List, [], ◌∷◌, ◌++◌, eqb, replicate, set}
use Rattle.std.proofs.Common.{sym, subst, inl, inr}
use Rattle.area.specs.Limits.{width, unused}
use Rattle.area.specs.Tests.{all, first}
use Rattle.area.specs.Tables.{build, tabulate, per_router}
use Rattle.area.specs.Sizes.{is_router_count, is_table}
use Rattle.sets.specs.Sets.{bit, set_of, added, removed, without, subset}
use Rattle.sets.specs.Counts.{total, size}
use Rattle.sets.specs.Four.{four}
use Rattle.entries.specs.Entries.{entry_count, entry_of, is_free, entry_refusal, listed_refusal, listed_metric}
use Rattle.topology.specs.Topology.{is_link, topology}
use Rattle.topology.specs.Distance.{sums, least, distance}
use Rattle.topology.specs.NextHops.{is_next, next_hops}
use Rattle.area.specs.Lists.{Distinct}
use Rattle.paths.specs.Paths.{PathTables, is_metric, are_metrics, are_paths}
use Rattle.ranks.specs.Rank.{greatest, above, longest, rank}
use Rattle.changes.specs.Root.{is_common, root}
use Rattle.plan.specs.declared.Record.{Record}
use Rattle.plan.specs.NewMetrics.{new_cell, new_metrics}
use Rattle.plan.specs.Direction.{are_at_most, is_same, is_rise, is_fall}
use Rattle.plan.specs.Waiting.{old_hops, new_hops, old_fours, new_fours, waiting, telling, due}
use Rattle.plan.specs.Plan.{Tables, are_tables, change_refusal, plan_refusal, is_planned, fresh, record_of, tables_of}
use Rattle.convergence.specs.Pointers.{pointers, Along}
use Rattle.machine.specs.Answers.{Reply, ok, ignored, refused, gives}
use Rattle.machine.specs.Machine.{learn, release, must_wait, ready, write, finish, listens, deliver, is_sound, is_kind}
use Rattle.machine.specs.Machine.{reads_a, reads_b, are_routers, call_of, step_of}
use Rattle.machine.specs.Run.{Call, call, run, has_tick, replies, has_written, calls_of}
use Rattle.loop_free.specs.LoopFree.{untimed, OnTime, LoopFree}
use Rattle.loop_free.proofs.LoopFreeLaws.{loop_free}
use Rattle.loop_free.specs.HandedBack.{none, stepped, ran, LoopFreeBy}
use Rattle.loop_free.proofs.HandedBackLaws.{handed_back_free}

-- ---- the two areas
-- the metrics m with the link i–j at v, both ways
abbrev link : ℕ → ℕ → ℕ → List ℕ → List ℕ
link i j v m = set (set m (width * i + j) v) (width * j + i) v

-- the metrics where the link 1–2 is down, and where it is up
metrics_down : List ℕ
metrics_down = link 0 1 1 (link 0 2 3 (replicate (width * width) unused))

metrics_up : List ℕ
metrics_up = link 1 2 1 metrics_down

-- the two change lists
goes_down : List ℕ
goes_down = 1 ∷ 2 ∷ 255 ∷ 255 ∷ 255 ∷ 2 ∷ 1 ∷ 255 ∷ 255 ∷ 255 ∷ []

comes_up : List ℕ
comes_up = 1 ∷ 2 ∷ 0 ∷ 0 ∷ 1 ∷ 2 ∷ 1 ∷ 0 ∷ 0 ∷ 1 ∷ []

-- tables of the right size to lend to Plan
paths : PathTables
paths = record { distances = metrics_up; hops = metrics_up; fours = metrics_up }

lent : Tables
lent = record { metrics = metrics_up; old = paths; new = paths }

-- an entry for each of the three routers, and 0 for the rest
abbrev three : ℕ → ℕ → ℕ → List ℕ
three x y z = x ∷ y ∷ z ∷ replicate (width - 3) 0

-- the records: 1 waits for 0 and 2 in the rise, and both wait for 1 in the fall; destination 2 is due at 0 and at 1,
-- and both others are due at 2
before_rise : Record
before_rise =
    record {
      n = 3;
      root = 1;
      direction = 1;
      ranks = three 0 1 0;
      waiting = three 0 5 0;
      telling = three 2 0 2;
      due = three 4 4 3;
      states = three 0 0 0;
      written = three 0 0 0;
      hold_time = 0;
      step_time = 1;
      clock = 0;
      learn_times = three 0 0 0;
    }

before_fall : Record
before_fall =
    record {
      n = 3;
      root = 1;
      direction = 2;
      ranks = three 1 0 1;
      waiting = three 2 0 2;
      telling = three 0 5 0;
      due = three 4 4 3;
      states = three 0 0 0;
      written = three 0 0 0;
      hold_time = 0;
      step_time = 1;
      clock = 0;
      learn_times = three 0 0 0;
    }

-- Plan accepts the changes l of the metrics m, and hands back the record r.
record Accepts (m l : List ℕ) (r : Record) : Type 0 where
  accepted : plan_refusal 3 1 m l (are_tables m lent) ≡ 0
  given : record_of 3 0 1 m l lent ≡ r

planned : Accepts metrics_up goes_down before_rise × Accepts metrics_down comes_up before_fall
unfolding metrics_down metrics_up goes_down comes_up paths lent before_rise before_fall record_of is_planned fresh
    per_router build rank longest above greatest waiting telling due old_hops new_hops old_fours new_fours four size
    total next_hops is_next bit set_of distance sums least topology is_link new_metrics tabulate new_cell listed_metric
    plan_refusal change_refusal are_tables are_paths is_table is_router_count are_metrics is_metric all first
    listed_refusal entry_refusal is_free are_at_most is_same is_rise is_fall is_common root entry_count entry_of
planned = (record { accepted = refl; given = refl }, record { accepted = refl; given = refl })

-- ---- calls in order
-- Rise: 1 may not write 2 before 0 is done. 0 writes it.
rise_calls : List Call
rise_calls = call 1 1 0 ∷ call 2 1 0 ∷ call 3 1 2 ∷ call 1 0 0 ∷ call 2 0 0 ∷ call 3 0 2 ∷ []

-- Then 0 is done and tells 1, twice; 1 still waits for 2. 2 writes both others, is done and tells 1, and 1 writes 2.
rise_rest : List Call
rise_rest =
    call 4 0 0 ∷ call 5 0 1 ∷ call 5 0 1 ∷ call 3 1 2 ∷ call 1 2 0 ∷ call 2 2 0 ∷
    call 3 2 0 ∷ call 3 2 1 ∷ call 4 2 0 ∷ call 5 2 1 ∷ call 3 1 2 ∷ []

-- Fall: 0 and 2 may not write before 1 is done. 1 writes 2.
fall_calls : List Call
fall_calls =
    call 1 0 0 ∷ call 2 0 0 ∷ call 3 0 2 ∷ call 1 2 0 ∷ call 2 2 0 ∷ call 3 2 0 ∷
    call 1 1 0 ∷ call 2 1 0 ∷ call 3 1 2 ∷ []

-- the answers to the calls, and that one of the routers 0 and 1 has written 2 and the other has not
record RiseAnswers (r : Record) : Type 0 where
  all_replies :
      replies r (rise_calls ++ rise_rest)
      ≡ ok ∷ ok ∷ refused 24 ∷ ok ∷ ok ∷ ok ∷ ok ∷ ok ∷ ignored ∷ refused 24 ∷ ok ∷ ok ∷ ok ∷ ok ∷ ok ∷ ok ∷ ok ∷ []
  has_written_lem : has_written r rise_calls 0 2 ≡ true
  has_not : has_written r rise_calls 1 2 ≡ false

record FallAnswers (r : Record) : Type 0 where
  all_replies :
      replies r fall_calls
      ≡ ok ∷ ok ∷ refused 24 ∷ ok ∷ ok ∷ refused 24 ∷ ok ∷ ok ∷ ok ∷ []
  has_written_lem : has_written r fall_calls 1 2 ≡ true
  has_not : has_written r fall_calls 0 2 ≡ false

answered :
    RiseAnswers (record_of 3 0 1 metrics_up goes_down lent)
    × FallAnswers (record_of 3 0 1 metrics_down comes_up lent)
unfolding before_rise before_fall rise_calls rise_rest fall_calls replies has_written step_of call_of are_routers
    reads_a reads_b is_kind is_sound is_router_count all deliver listens finish write ready must_wait release learn bit
    set_of added removed without subset
answered = (
  subst RiseAnswers (sym planned.0.given) (record { all_replies = refl; has_written_lem = refl; has_not = refl }),
  subst FallAnswers (sym planned.1.given) (record { all_replies = refl; has_written_lem = refl; has_not = refl }),
)

no_ticks : (has_tick rise_calls ≡ false) × (has_tick fall_calls ≡ false)
unfolding rise_calls fall_calls has_tick
no_ticks = (refl, refl)

-- demand 3 after these calls
rise_free : LoopFree 3 metrics_up goes_down (record_of 3 0 1 metrics_up goes_down lent) rise_calls
rise_free = loop_free 3 0 1 metrics_up goes_down lent planned.0.accepted rise_calls (untimed no_ticks.0)

fall_free : LoopFree 3 metrics_down comes_up (record_of 3 0 1 metrics_down comes_up lent) fall_calls
fall_free = loop_free 3 0 1 metrics_down comes_up lent planned.1.accepted fall_calls (untimed no_ticks.1)

-- and of what the code hands back, after a step by which 1 learns of the change and any steps more
rise_handed_back :
    {next last : Record} {reply : Reply} (bytes : List ℕ)
    → gives next reply ≡ step_of (record_of 3 0 1 metrics_up goes_down lent) 1 1 0
    → last ≡ run next (calls_of bytes)
    → OnTime last
    → LoopFreeBy 3 (tables_of 3 1 metrics_up goes_down lent) last
rise_handed_back {last} bytes outcome ran-last on-time =
    handed_back_free 3 0 1 metrics_up goes_down lent planned.0.accepted
    (record_of 3 0 1 metrics_up goes_down lent) last (tables_of 3 1 metrics_up goes_down lent) refl refl
    (ran bytes (stepped 1 1 0 none outcome) ran-last) on-time

-- ---- out of order
-- packets for 2 go 0, 1, 0 if of all routers only x has written 2
abbrev Loops : List ℕ → List ℕ → ℕ → Type 0
Loops m l x = Along (pointers (λ r. old_fours 3 m r 2) (λ r. new_fours 3 m l r 2) (λ r. eqb r x)) 0 (1 ∷ 0 ∷ [])

-- in the rise if 1 writes before 0, and in the fall if 0 writes before 1: the two writes that are refused above
loops : Loops metrics_up goes_down 1 × Loops metrics_down comes_up 0
unfolding metrics_down metrics_up goes_down comes_up old_hops new_hops old_fours new_fours four size total next_hops
    is_next bit set_of distance sums least topology is_link new_metrics tabulate build new_cell listed_metric
    entry_count entry_of
loops = ((refl, (refl, tt)), (refl, (refl, tt)))

-- that walk meets 0 twice
twice : ¬ Distinct (0 ∷ 1 ∷ 0 ∷ [])
twice d = d.0 (inr (inl refl))
