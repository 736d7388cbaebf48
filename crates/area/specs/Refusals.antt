-- The refusals of 01 and 02: a name for the number of each, and when it is given. No two have the same number,
-- and none has 0 (RefusalLaws.antt), so an equation on the number decides the answer.
use Rattle.std.specs.Prelude.{ℕ, Result, Ok, Err}
use Rattle.area.specs.declared.refusal.Refusal.{Refusal}
use Rattle.area.specs.declared.refusal.Refusal.TheVariants.{Incomplete, Trailing, RouterCount}
use Rattle.area.specs.declared.refusal.Refusal.TheVariants.{UnknownRouter, SelfLink, Metric, Repeated}
use Rattle.area.specs.declared.refusal.Refusal.TheVariants.{TableSize, TooMany, NoChange, SameMetric}
use Rattle.area.specs.declared.refusal.Refusal.TheVariants.{Mixed, NoCommonRouter, Record, Kind, State}
use Rattle.area.specs.declared.refusal.Refusal.TheVariants.{Waiting, NotDue, Unwritten, NotDone, NotTold}
use Rattle.area.specs.declared.refusal.Refusal.TheVariants.{DeadLink, PastList, LongSubTlvs, UnknownIdentity}
use Rattle.area.specs.declared.refusal.Refusal.TheVariants.{TooEarly, ClockEnd, NoStepTime}

-- ---- of Paths, Plan and Read: what they were handed
-- a bench file or a list of IS-IS entries ends too early, or the bytes of a change list or of a table of identities are
-- no whole number of entries or rows
abbrev pub incomplete : ℕ
incomplete = 1

-- bytes follow the last step of a bench file, or the last list
abbrev pub trailing : ℕ
trailing = 2

-- n is not 1 to 64
abbrev pub router_count : ℕ
router_count = 3

-- a router is not below n; of Step too
abbrev pub unknown_router : ℕ
unknown_router = 4

-- an entry goes from a router to itself
abbrev pub self_link : ℕ
self_link = 5

-- a metric is 0, or above that of a link that is not used
abbrev pub bad_metric : ℕ
bad_metric = 6

-- the pair of an entry has been listed before
abbrev pub repeated : ℕ
repeated = 7

-- a table has not 4,096 cells
abbrev pub table_size : ℕ
table_size = 8

-- there are more links, changes or steps than there may be
abbrev pub too_many : ℕ
too_many = 9

-- ---- of Plan: the change
-- the change list is empty
abbrev pub no_change : ℕ
no_change = 10

-- no usable metric differs
abbrev pub same_metric : ℕ
same_metric = 11

-- neither a rise nor a fall
abbrev pub mixed : ℕ
mixed = 12

-- no router is an end of every change
abbrev pub no_common_router : ℕ
no_common_router = 13

-- ---- of Step: the record and the call
-- the record's n is not 1 to 64, or one of its states is above 3
abbrev pub bad_record : ℕ
bad_record = 20

-- there is no such kind of call
abbrev pub unknown_kind : ℕ
unknown_kind = 21

-- the router is not in the state from which the call moves it on
abbrev pub wrong_state : ℕ
wrong_state = 23

-- the router waits for another
abbrev pub still_waiting : ℕ
still_waiting = 24

-- the destination is not due, or is written already
abbrev pub not_due : ℕ
not_due = 25

-- something due is not written
abbrev pub unwritten : ℕ
unwritten = 26

-- the sender is not done
abbrev pub not_done : ℕ
not_done = 27

-- the sender does not tell the receiver
abbrev pub not_told : ℕ
not_told = 28

-- ---- of Read (02, No. 5)
-- a link of a bench file is dead: its metric is that of a link that is not used
abbrev pub dead_link : ℕ
dead_link = 30

-- ---- of areas from IS-IS (02, No. 6)
-- an entry runs past the end of its list
abbrev pub past_list : ℕ
past_list = 31

-- the sub-TLVs of an entry have more bytes than there may be
abbrev pub long_sub_tlvs : ℕ
long_sub_tlvs = 32

-- the identity of a neighbour is not in the table of identities
abbrev pub unknown_identity : ℕ
unknown_identity = 33

-- ---- of the rank timers (02, No. 10)
-- a release comes before the router's hold time is over
abbrev pub too_early : ℕ
too_early = 34

-- a tick finds the clock at the last time that it can show
abbrev pub clock_end : ℕ
clock_end = 35

-- of Plan: the step time is 0
abbrev pub no_step_time : ℕ
no_step_time = 36

-- ---- of an answer of the code
-- the number of a refusal; `Refusal` is the enum of src/refusal.rt
abbrev pub refusal_number : (k : Refusal) → ℕ
refusal_number Incomplete = incomplete
refusal_number Trailing = trailing
refusal_number RouterCount = router_count
refusal_number UnknownRouter = unknown_router
refusal_number SelfLink = self_link
refusal_number Metric = bad_metric
refusal_number Repeated = repeated
refusal_number TableSize = table_size
refusal_number TooMany = too_many
refusal_number NoChange = no_change
refusal_number SameMetric = same_metric
refusal_number Mixed = mixed
refusal_number NoCommonRouter = no_common_router
refusal_number Record = bad_record
refusal_number Kind = unknown_kind
refusal_number State = wrong_state
refusal_number Waiting = still_waiting
refusal_number NotDue = not_due
refusal_number Unwritten = unwritten
refusal_number NotDone = not_done
refusal_number NotTold = not_told
refusal_number DeadLink = dead_link
refusal_number PastList = past_list
refusal_number LongSubTlvs = long_sub_tlvs
refusal_number UnknownIdentity = unknown_identity
refusal_number TooEarly = too_early
refusal_number ClockEnd = clock_end
refusal_number NoStepTime = no_step_time

-- the number of an answer: the refusal's, and 0 where the input is accepted
abbrev pub verdict_number : {T : Type 0} → (v : Result T Refusal) → ℕ
verdict_number (Ok _) = 0
verdict_number (Err k) = refusal_number k
