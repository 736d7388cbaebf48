-- Step (01, "The steps"; 02, No. 10): the machine over a plan's record, for every record r, every kind and all numbers
-- a and b. First the words: states, kinds, a router's entries and times, the record with an entry replaced. Then a
-- definition for each kind (`learn` .. `tick`), the refusals that come before (`is_record`, `is_kind`, `are_routers`),
-- and Step: `step_of`.
-- `set t a s` is the table t with s as its entry a.
use Rattle.std.specs.Prelude.{ℕ, ◌+◌, ◌*◌, Bool, not, ◌&&◌, ◌||◌, List, eqb, leb, ltb, get_or, set}
use Rattle.area.specs.Limits.{width, last_time}
use Rattle.area.specs.Tests.{pick, all}
use Rattle.area.specs.Sizes.{is_router_count}
use Rattle.area.specs.Refusals.{unknown_router, bad_record, unknown_kind, wrong_state, still_waiting}
use Rattle.area.specs.Refusals.{not_due, unwritten, not_done, not_told, too_early, clock_end}
use Rattle.sets.specs.Sets.{bit, added, removed, subset}
use Rattle.plan.specs.declared.Record.{Record}
use Rattle.machine.specs.Answers.{ok, ignored, refused, Outcome, gives}

-- ---- the states of a router
abbrev pub idle : ℕ
idle = 0

abbrev pub holding : ℕ
holding = 1

abbrev pub ongoing : ℕ
ongoing = 2

abbrev pub done : ℕ
done = 3

-- ---- the kinds of calls
abbrev pub learn_kind : ℕ
learn_kind = 1

abbrev pub release_kind : ℕ
release_kind = 2

abbrev pub write_kind : ℕ
write_kind = 3

abbrev pub finish_kind : ℕ
finish_kind = 4

abbrev pub deliver_kind : ℕ
deliver_kind = 5

abbrev pub tick_kind : ℕ
tick_kind = 6

-- ---- a router's entries of the record
abbrev pub state_of : (r : Record) (a : ℕ) → ℕ
state_of r a = get_or r.states a 0

abbrev pub waiting_of : (r : Record) (a : ℕ) → ℕ
waiting_of r a = get_or r.waiting a 0

abbrev pub telling_of : (r : Record) (a : ℕ) → ℕ
telling_of r a = get_or r.telling a 0

abbrev pub due_of : (r : Record) (a : ℕ) → ℕ
due_of r a = get_or r.due a 0

abbrev pub written_of : (r : Record) (a : ℕ) → ℕ
written_of r a = get_or r.written a 0

abbrev pub rank_of : (r : Record) (a : ℕ) → ℕ
rank_of r a = get_or r.ranks a 0

-- the clock when router a learned of the change; 0 until it does
abbrev pub learn_time : (r : Record) (a : ℕ) → ℕ
learn_time r a = get_or r.learn_times a 0

-- ---- its timers (02, No. 10), as natural numbers, which never wrap
-- until then it holds
abbrev pub held_until : (r : Record) (a : ℕ) → ℕ
held_until r a = learn_time r a + r.hold_time

-- from then on it waits for no router
abbrev pub due_time : (r : Record) (a : ℕ) → ℕ
due_time r a = held_until r a + rank_of r a * r.step_time

-- ---- the record with other tables and times, and with one entry of router a replaced
-- the record with another n and other tables
abbrev pub over : (r : Record) (n : ℕ) (waiting telling due states written : List ℕ) → Record
over r n waiting telling due states written =
    record {
      n = n;
      root = r.root;
      direction = r.direction;
      ranks = r.ranks;
      waiting = waiting;
      telling = telling;
      due = due;
      states = states;
      written = written;
      hold_time = r.hold_time;
      step_time = r.step_time;
      clock = r.clock;
      learn_times = r.learn_times;
    }

-- the record with other ranks and other times; with `over` it is all that a call reads
abbrev pub timed : (r : Record) (ranks : List ℕ) (hold step clock : ℕ) (learned : List ℕ) → Record
timed r ranks hold step clock learned =
    record {
      n = r.n;
      root = r.root;
      direction = r.direction;
      ranks = ranks;
      waiting = r.waiting;
      telling = r.telling;
      due = r.due;
      states = r.states;
      written = r.written;
      hold_time = hold;
      step_time = step;
      clock = clock;
      learn_times = learned;
    }

-- a call changes no other tables than these
abbrev pub with_tables : (r : Record) (waiting states written : List ℕ) → Record
with_tables r waiting states written = over r r.n waiting r.telling r.due states written

abbrev pub with_state : (r : Record) (a s : ℕ) → Record
with_state r a s = with_tables r r.waiting (set r.states a s) r.written

abbrev pub with_waiting : (r : Record) (a s : ℕ) → Record
with_waiting r a s = with_tables r (set r.waiting a s) r.states r.written

abbrev pub with_written : (r : Record) (a s : ℕ) → Record
with_written r a s = with_tables r r.waiting r.states (set r.written a s)

-- nor other times
abbrev pub with_times : (r : Record) (clock : ℕ) (learned : List ℕ) → Record
with_times r clock learned = timed r r.ranks r.hold_time r.step_time clock learned

-- router a has learned of the change now, and is in state s
abbrev pub with_learned : (r : Record) (a s : ℕ) → Record
with_learned r a s = with_times (with_state r a s) r.clock (set r.learn_times a r.clock)

abbrev pub with_clock : (r : Record) (clock : ℕ) → Record
with_clock r clock = with_times r clock r.learn_times

-- ---- the six kinds, where a and b are routers: first the refusals in their order, then the move
-- learn: an idle router holds from now on, and the clock is noted
unfoldable pub learn : (r : Record) (a : ℕ) → Outcome
learn r a =
    pick (not (eqb (state_of r a) idle)) (gives r (refused wrong_state))
    (gives (with_learned r a holding) ok)

-- release: the hold-down is over, once the hold time is
unfoldable pub release : (r : Record) (a : ℕ) → Outcome
release r a =
    pick (not (eqb (state_of r a) holding)) (gives r (refused wrong_state))
    (pick (ltb r.clock (held_until r a)) (gives r (refused too_early))
    (gives (with_state r a ongoing) ok))

-- A router that waits for the set `waits` must go on waiting: the set is not empty, and the due time has not come.
unfoldable pub must_wait : (waits clock due : ℕ) → Bool
must_wait waits clock due = not (eqb waits 0) && ltb clock due

-- Write and finish begin alike: a must be ongoing, and wait no longer. Then follows o.
unfoldable pub ready : (r : Record) (a : ℕ) (o : Outcome) → Outcome
ready r a o =
    pick (not (eqb (state_of r a) ongoing)) (gives r (refused wrong_state))
    (pick (must_wait (waiting_of r a) r.clock (due_time r a)) (gives r (refused still_waiting))
    o)

-- write: destination b joins the written set of a
unfoldable pub write : (r : Record) (a b : ℕ) → Outcome
write r a b =
    ready r a
    (pick (not (bit (due_of r a) b) || bit (written_of r a) b) (gives r (refused not_due))
    (gives (with_written r a (added width (written_of r a) b)) ok))

-- finish: a is done, once all that is due is written
unfoldable pub finish : (r : Record) (a : ℕ) → Outcome
finish r a =
    ready r a
    (pick (not (subset width (due_of r a) (written_of r a))) (gives r (refused unwritten))
    (gives (with_state r a done) ok))

-- A router in state s that waits for the set w listens for the message of a: it is holding or ongoing, and waits for a.
unfoldable pub listens : (s w a : ℕ) → Bool
listens s w a = (eqb s holding || eqb s ongoing) && bit w a

-- deliver: the message that a is done arrives at b, which no longer waits for a; it is lost on a router that does not
-- listen for it
unfoldable pub deliver : (r : Record) (a b : ℕ) → Outcome
deliver r a b =
    pick (not (eqb (state_of r a) done)) (gives r (refused not_done))
    (pick (not (bit (telling_of r a) b)) (gives r (refused not_told))
    (pick (listens (state_of r b) (waiting_of r b) a) (gives (with_waiting r b (removed width (waiting_of r b) a)) ok)
    (gives r ignored)))

-- tick: the clock goes on, up to the last time that it can show
unfoldable pub tick : (r : Record) → Outcome
tick r =
    pick (eqb r.clock last_time) (gives r (refused clock_end))
    (gives (with_clock r (r.clock + 1)) ok)

-- ---- the refusals that come before
-- n is a number of routers, and each of the states is one of the four
unfoldable pub is_sound : (n : ℕ) (states : List ℕ) → Bool
is_sound n states = is_router_count n && all width (λ i. leb (get_or states i 0) done)

abbrev pub is_record : (r : Record) → Bool
is_record r = is_sound r.n r.states

unfoldable pub is_kind : (kind : ℕ) → Bool
is_kind kind = leb learn_kind kind && leb kind tick_kind

-- a tick does not read a, and write and deliver read b
unfoldable pub reads_a : (kind : ℕ) → Bool
reads_a kind = not (eqb kind tick_kind)

unfoldable pub reads_b : (kind : ℕ) → Bool
reads_b kind = eqb kind write_kind || eqb kind deliver_kind

-- a and b, where they are read, are routers of the area
unfoldable pub are_routers : (r : Record) (kind a b : ℕ) → Bool
are_routers r kind a b = (not (reads_a kind) || ltb a r.n) && (not (reads_b kind) || ltb b r.n)

-- the call of a known kind
unfoldable pub call_of : (r : Record) (kind a b : ℕ) → Outcome
call_of r kind a b =
    pick (eqb kind learn_kind) (learn r a)
    (pick (eqb kind release_kind) (release r a)
    (pick (eqb kind write_kind) (write r a b)
    (pick (eqb kind finish_kind) (finish r a)
    (pick (eqb kind deliver_kind) (deliver r a b)
    (tick r)))))

-- Step
unfoldable pub step_of : (r : Record) (kind a b : ℕ) → Outcome
step_of r kind a b =
    pick (not (is_record r)) (gives r (refused bad_record))
    (pick (not (is_kind kind)) (gives r (refused unknown_kind))
    (pick (not (are_routers r kind a b)) (gives r (refused unknown_router))
    (call_of r kind a b)))
