-- Following a sheet (02, No. 1 and No. 10): the calls by which every router learns of the change and, after the ticks
-- of the hold time, is released; and then each in turn writes all that is due, finishes, and has its message delivered
-- to each router that it tells.
--     turn, hold_ticks     the calls of one turn, and the ticks of the hold time
--     following           the calls of a whole sheet
--     sheet_calls          those of a record's own sheet
--     AllOk               no call is refused or ignored
use Rattle.std.specs.Prelude.{ℕ, zero, suc, ◌≡◌, List, [], ◌∷◌, ◌++◌, get_or}
use Rattle.area.specs.Tests.{pick}
use Rattle.sets.specs.Sets.{bit}
use Rattle.plan.specs.declared.Record.{Record}
use Rattle.machine.specs.Answers.{ok}
use Rattle.machine.specs.Machine.{learn_kind, release_kind, write_kind, finish_kind, deliver_kind, due_of, telling_of}
use Rattle.machine.specs.Run.{Call, call, step, ticks}
use Rattle.sheet.specs.Sheet.{sheet_of}

-- the calls f 0, f 1, .. f (n - 1), one list after another
unfoldable pub each : (n : ℕ) (f : ℕ → List Call) → List Call
each zero f = []
each (suc n) f = each n f ++ f n

-- one call for each of n routers, or only for the members of a set
abbrev pub call_each : (n : ℕ) (c : ℕ → Call) → List Call
call_each n c = each n (λ x. c x ∷ [])

abbrev pub call_members : (n set : ℕ) (c : ℕ → Call) → List Call
call_members n set c = each n (λ x. pick (bit set x) (c x ∷ []) [])

-- The turn of router a: it writes what is due, finishes, and its message reaches those that it tells.
abbrev pub turn : (r : Record) (a : ℕ) → List Call
turn r a =
    call_members r.n (due_of r a) (λ d. call write_kind a d)
    ++ ((call finish_kind a 0 ∷ [])
    ++ call_members r.n (telling_of r a) (λ t. call deliver_kind a t))

-- the ticks between learning and being released
abbrev pub hold_ticks : (r : Record) → List Call
hold_ticks r = ticks r.hold_time

-- All routers learn, the hold time goes by, all are released, and then the router at place 0 has its turn, the one at
-- place 1, and so on.
abbrev pub following : (r : Record) (place : ℕ → ℕ) → List Call
following r place =
    call_each r.n (λ x. call learn_kind x 0)
    ++ (hold_ticks r
    ++ (call_each r.n (λ x. call release_kind x 0)
    ++ each r.n (λ k. turn r (place k))))

abbrev pub sheet_calls : (r : Record) → List Call
sheet_calls r = following r (λ k. get_or (sheet_of r) k 0)

-- every call is answered "ok", each on the record that the one before it handed back
abbrev pub AllOk : (r : Record) (calls : List Call) → Type 0
AllOk r [] = Unit {0}
AllOk r (c ∷ cs) = ((step r c).reply ≡ ok) × AllOk (step r c).next cs
