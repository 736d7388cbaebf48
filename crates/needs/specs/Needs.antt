-- How many calls a change takes (02, No. 8), counted by the answers "ok". Ticks are not counted (02, No. 10).
--     is_counted, oks       which calls count, and how many of a list of calls are answered so
--     needs                how many that are in all, by the fresh record
--     missing              how many are still to come, by a record on the way
--     AllDone, AllHeard    the end: every router is done, and no message is missing
--     GoesOn               a call that brings it nearer, once some time has gone by
use Rattle.std.specs.Prelude.{ℕ, ◌+◌, ◌*◌, ◌-◌, ◌≤◌, ◌<◌, ◌≡◌, Bool, ◌&&◌, List, [], ◌∷◌, leb, get_or}
use Rattle.area.specs.Limits.{width, longest_time, last_time}
use Rattle.sets.specs.Sets.{num, without}
use Rattle.sets.specs.Counts.{total, size}
use Rattle.plan.specs.declared.Record.{Record}
use Rattle.machine.specs.Answers.{ok}
use Rattle.machine.specs.Machine.{done, learn_kind, deliver_kind, state_of, waiting_of, due_of, written_of}
use Rattle.machine.specs.Run.{Call, step, run, ticks, is_ok}

-- Calls of the kinds learn to deliver count, and a tick does not.
abbrev pub is_counted : (kind : ℕ) → Bool
is_counted kind = leb kind deliver_kind

-- how many of the calls, each on the record that the one before it handed back, count and are answered "ok"
unfoldable pub oks : (r : Record) (calls : List Call) → ℕ
oks r [] = 0
oks r (c ∷ cs) = num (is_counted c.kind && is_ok (step r c).reply) + oks (step r c).next cs

-- the sizes of the sets of n routers together
abbrev pub sizes : (n : ℕ) (sets : List ℕ) → ℕ
sizes n sets = total n (λ x. size width (get_or sets x 0))

-- Three for each router, to learn, to be released and to finish; one for each destination that is due, to be written;
-- one for each router that another waits for, whose message is to arrive.
unfoldable pub needs : (fresh : Record) → ℕ
needs r = 3 * r.n + sizes r.n r.due + sizes r.n r.waiting

-- what is due at router a and not yet written
abbrev pub unwritten_of : (r : Record) (a : ℕ) → ℕ
unwritten_of r a = without width (due_of r a) (written_of r a)

-- The same three of a record on the way: the states that each router has before it, what is unwritten, and who is
-- waited for.
unfoldable pub missing : (now : Record) → ℕ
missing r =
    total r.n (λ x. done - state_of r x)
    + total r.n (λ x. size width (unwritten_of r x))
    + sizes r.n r.waiting

-- every router is done
abbrev pub AllDone : (r : Record) → Type 0
AllDone r = (x : ℕ) → x < r.n → state_of r x ≡ done

-- every waiting set is empty
abbrev pub AllHeard : (r : Record) → Type 0
AllHeard r = (x : ℕ) → x < r.n → waiting_of r x ≡ 0

-- Up to this time, 4,294,901,760, the clock can go on by any hold time.
abbrev pub last_hold_start : ℕ
last_hold_start = last_time - longest_time

-- After so many ticks, perhaps none and at most the hold time, some call of the kinds learn to deliver, whose routers
-- are of the area, is answered "ok".
pub record GoesOn (r : Record) : Type 0 where
  pub wait : ℕ
  pub wait_most : wait ≤ r.hold_time
  pub next : Call
  pub kind_from : learn_kind ≤ next.kind
  pub kind_to : next.kind ≤ deliver_kind
  pub a_inside : next.a < r.n
  pub b_inside : next.b < r.n
  pub answered : (step (run r (ticks wait)) next).reply ≡ ok
