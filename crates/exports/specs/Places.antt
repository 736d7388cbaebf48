-- A record that is lent field by field, as `Places` of src/fields.rt.
use Rattle.std.specs.Prelude.{◌≡◌}
use Rattle.plan.specs.declared.Record.{Record}
use Rattle.exports.specs.declared.fields.Places.{Places}
use Rattle.exports.specs.Fields.{record_from}

-- the record whose fields are there
abbrev pub held : Places → Record
held p =
    record_from p.routers.now p.root.now p.direction.now
    p.ranks.now p.waiting.now p.telling.now p.due.now
    p.states.now p.written.now
    p.hold_time.now p.step_time.now p.clock.now p.learn_times.now

-- They are the same places still, whatever they hold: none was put in the place of another.
abbrev pub AreSame : (p q : Places) → Type 0
AreSame p q =
    (q.routers.ghost_name ≡ p.routers.ghost_name)
    × (q.root.ghost_name ≡ p.root.ghost_name)
    × (q.direction.ghost_name ≡ p.direction.ghost_name)
    × (q.ranks.ghost_name ≡ p.ranks.ghost_name)
    × (q.waiting.ghost_name ≡ p.waiting.ghost_name)
    × (q.telling.ghost_name ≡ p.telling.ghost_name)
    × (q.due.ghost_name ≡ p.due.ghost_name)
    × (q.states.ghost_name ≡ p.states.ghost_name)
    × (q.written.ghost_name ≡ p.written.ghost_name)
    × (q.hold_time.ghost_name ≡ p.hold_time.ghost_name)
    × (q.step_time.ghost_name ≡ p.step_time.ghost_name)
    × (q.clock.ghost_name ≡ p.clock.ghost_name)
    × (q.learn_times.ghost_name ≡ p.learn_times.ghost_name)
