-- A record that is lent by its parts, as `Lent` of src/lent.rt. Whatever record x they are put into, the machine's call
-- on it gives x with the parts as a call leaves them, and the reply: so each call promises, and so it reads no other
-- field of a record, and changes none.
use Rattle.std.specs.Prelude.{◌≡◌}
use Rattle.plan.specs.declared.Record.{Record}
use Rattle.machine.specs.Machine.{over, timed}
use Rattle.steps.specs.declared.lent.Lent.{Lent}

-- the record x with the lent parts in the place of its own
abbrev pub put : (x : Record) (l : Lent) → Record
put x l =
    over (timed x l.ranks.now l.hold_time l.step_time l.clock.now l.learn_times.now)
    l.n l.waiting.now l.telling.now l.due.now l.states.now l.written.now

-- The parts are the same still, whatever those hold that are lent to be written: none was put in the place of another.
-- l is the lent record as it was, and m as it is left.
abbrev pub AreSame : (l m : Lent) → Type 0
AreSame l m =
    (m.n ≡ l.n)
    × (m.ranks.now ≡ l.ranks.now)
    × (m.telling.now ≡ l.telling.now)
    × (m.due.now ≡ l.due.now)
    × (m.hold_time ≡ l.hold_time)
    × (m.step_time ≡ l.step_time)
    × (m.waiting.ghost_name ≡ l.waiting.ghost_name)
    × (m.states.ghost_name ≡ l.states.ghost_name)
    × (m.written.ghost_name ≡ l.written.ghost_name)
    × (m.clock.ghost_name ≡ l.clock.ghost_name)
    × (m.learn_times.ghost_name ≡ l.learn_times.ghost_name)
