-- The states of a router by name, and each event as a case (the draft's section 8; 02, No. 3). `State` and `Event`
-- are the enums of src/states.rt, which has the draft's name beside each.
use Rattle.std.specs.Prelude.{ℕ, ◌≡◌, eqb, Option, Some, None}
use Rattle.area.specs.Tests.{pick}
use Rattle.plan.specs.declared.Record.{Record}
use Rattle.machine.specs.declared.states.State.{State}
use Rattle.machine.specs.declared.states.State.TheVariants.{Idle, Holding, Ongoing, Done}
use Rattle.machine.specs.declared.states.Event.{Event}
use Rattle.machine.specs.declared.states.Event.TheVariants.{Learn, Release, Write, Finish}
use Rattle.machine.specs.Machine.{idle, holding, ongoing, done, state_of}
use Rattle.machine.specs.Machine.{learn_kind, release_kind, write_kind, finish_kind}

-- the number that a state has in the record
abbrev pub state_number : State → ℕ
state_number Idle = idle
state_number Holding = holding
state_number Ongoing = ongoing
state_number Done = done

-- the state of a number; one that is none of the four is taken for done, from which no event leads on
abbrev pub named : (number : ℕ) → State
named s = pick (eqb s idle) Idle (pick (eqb s holding) Holding (pick (eqb s ongoing) Ongoing Done))

-- the kind of call by which an event comes
abbrev pub kind_of : Event → ℕ
kind_of Learn = learn_kind
kind_of Release = release_kind
kind_of Write = write_kind
kind_of Finish = finish_kind

-- The next state, or none where the event has no place: a line for each state and event.
abbrev pub next_state : State → Event → Option State
-- 8.1, OFIB_STABLE: a link-state packet describes the change, and the hold-down begins
next_state Idle Learn = Some Holding
next_state Idle Release = None
next_state Idle Write = None
next_state Idle Finish = None
-- 8.2 and 8.3, OFIB_HOLDING_DOWN and OFIB_HOLDING_UP: the hold-down timer expires
next_state Holding Learn = None
next_state Holding Release = Some Ongoing
next_state Holding Write = None
next_state Holding Finish = None
-- 8.4, OFIB_ONGOING: FIB updates are performed, and after the last one the router is stable again
next_state Ongoing Learn = None
next_state Ongoing Release = None
next_state Ongoing Write = Some Ongoing
next_state Ongoing Finish = Some Done
-- OFIB_STABLE again: the change is over for this router
next_state Done Learn = None
next_state Done Release = None
next_state Done Write = None
next_state Done Finish = None

-- the next state of router a of the record r
abbrev pub next_of : (r : Record) (a : ℕ) (event : Event) → Option State
next_of r a event = next_state (named (state_of r a)) event

-- by the event router a goes on to its next state, which it has in the record `next`
abbrev pub Goes : (r : Record) (a : ℕ) (event : Event) (next : Record) → Type 0
Goes r a event next = (s : State) × (next_of r a event ≡ Some s) × (state_of next a ≡ state_number s)

-- the state that an event leads to
abbrev pub enters : Event → State
enters Learn = Holding
enters Release = Ongoing
enters Write = Ongoing
enters Finish = Done
