-- A list of calls, one after another, each on the record that the one before it handed back (01, "The steps"). A call
-- has a kind and the numbers a and b.
--     run, replies     the last record, and the answers
--     has_tick, ticks   whether there are ticks in a list, and a list of nothing else
--     has_written       what a router has written, by its answers alone
--     calls_of          the calls that a list of bytes stands for
use Rattle.std.specs.Prelude.{ℕ, zero, suc, Bool, true, false, ◌&&◌, ◌||◌, List, [], ◌∷◌, eqb}
use Rattle.plan.specs.declared.Record.{Record}
use Rattle.machine.specs.Answers.{Reply, ok, ignored, refused, Outcome}
use Rattle.machine.specs.Machine.{write_kind, tick_kind, step_of}

pub record Call : Type 0 where
  pub kind : ℕ
  pub a : ℕ
  pub b : ℕ

abbrev pub call : (kind a b : ℕ) → Call
call kind a b = record { kind = kind; a = a; b = b }

-- what one call gives
abbrev pub step : (r : Record) (c : Call) → Outcome
step r c = step_of r c.kind c.a c.b

-- the last record
unfoldable pub run : (r : Record) (calls : List Call) → Record
run r [] = r
run r (c ∷ cs) = run (step r c).next cs

-- the list holds a tick
unfoldable pub has_tick : (calls : List Call) → Bool
has_tick [] = false
has_tick (c ∷ cs) = eqb c.kind tick_kind || has_tick cs

-- so many ticks
abbrev pub ticks : (count : ℕ) → List Call
ticks zero = []
ticks (suc count) = call tick_kind 0 0 ∷ ticks count

-- the answers, in the order of the calls
unfoldable pub replies : (r : Record) (calls : List Call) → List Reply
replies r [] = []
replies r (c ∷ cs) = (step r c).reply ∷ replies (step r c).next cs

abbrev pub is_ok : Reply → Bool
is_ok ok = true
is_ok ignored = false
is_ok (refused k) = false

-- the call c, with the outcome o, is a write by router a of destination d that is answered ok
abbrev pub is_write : (c : Call) (o : Outcome) (a d : ℕ) → Bool
is_write c o a d = (eqb c.kind write_kind && (eqb c.a a && eqb c.b d)) && is_ok o.reply

-- Router a has written d: the list, started from r, holds such a write.
unfoldable pub has_written : (r : Record) (calls : List Call) (a d : ℕ) → Bool
has_written r [] a d = false
has_written r (c ∷ cs) a d = is_write c (step r c) a d || has_written (step r c).next cs a d

-- The calls that a list of bytes stands for, three bytes each: kind, a, b. One or two bytes at the end are no call.
unfoldable pub calls_of : (bytes : List ℕ) → List Call
calls_of [] = []
calls_of (kind ∷ []) = []
calls_of (kind ∷ a ∷ []) = []
calls_of (kind ∷ a ∷ b ∷ l) = call kind a b ∷ calls_of l
