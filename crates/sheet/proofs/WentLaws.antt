-- Lists of calls that are all answered ok, and lead to a record of which P holds. They are put together as the calls of
-- a sheet are: one list after another, one for each router, one for each member of a set.
--     Went             such a list
--     went_none, went_one, went_then       no call, one call, one list and then another
--     went_ticks                           so many ticks, as far as the clock can go
--     went_each, went_members              for each router, and for each member of a set: P says how far the calls have
--                                          come, and goes up with them
use Rattle.std.specs.Prelude.{ℕ, zero, suc, ◌+◌, ◌≤◌, ◌<◌, ◌≡◌, refl, Bool, true, false, List, [], ◌∷◌, ◌++◌}
use Rattle.std.proofs.Common.{sym, ap, ◌∙◌, subst, arith}
use Rattle.area.specs.Limits.{last_time}
use Rattle.area.specs.Tests.{pick}
use Rattle.sets.specs.Sets.{bit}
use Rattle.plan.specs.declared.Record.{Record}
use Rattle.machine.specs.Answers.{ok, gives, Outcome}
use Rattle.machine.specs.Machine.{with_clock, is_record, step_of}
use Rattle.machine.specs.Run.{Call, call, step, run, ticks}
use Rattle.machine.proofs.CallLaws.{run_empty, run_one, run_joined}
use Rattle.machine.proofs.OkLaws.{ticks_on}
use Rattle.machine.proofs.TimelyLaws.{ticks_clock}
use Rattle.sheet.specs.Follow.{each, call_members, AllOk}

pub record Went (P : Record → Type 0) (r : Record) (calls : List Call) : Type 0 where
  pub all_ok : AllOk r calls
  pub reached : P (run r calls)

pub went_none : {P : Record → Type 0} {r : Record} → P r → Went P r []
went_none {P} {r} x = record { all_ok = tt; reached = subst P (sym (run_empty r)) x }

pub went_one :
    {P : Record → Type 0} {r : Record} (kind a b : ℕ) (next : Record)
    → step_of r kind a b ≡ gives next ok
    → P next
    → Went P r (call kind a b ∷ [])
went_one {P} {r} kind a b next e x = record {
  all_ok = (ap (λ (y : Outcome). y.reply) e, tt);
  reached = subst P (sym (run_one r kind a b ∙ ap (λ (y : Outcome). y.next) e)) x;
}

-- one list, and then another from the record that it leads to
ok_then :
    (r : Record) (calls more : List Call)
    → AllOk r calls
    → AllOk (run r calls) more
    → AllOk r (calls ++ more)
ok_then r [] more a b = subst (λ (q : Record). AllOk q more) (run_empty r) b
ok_then r (c ∷ cs) more a b =
    let first = run_joined r (c ∷ []) cs ∙ ap (λ (q : Record). run q cs) (run_one r c.kind c.a c.b) in
    (a.0, ok_then (step r c).next cs more a.1 (subst (λ (q : Record). AllOk q more) first b))

pub went_then :
    {P Q : Record → Type 0} {r : Record} (calls more : List Call)
    → Went P r calls
    → ((now : Record) → P now → Went Q now more)
    → Went Q r (calls ++ more)
went_then {Q = Q} {r} calls more x f =
    let y = f (run r calls) x.reached in
    record {
      all_ok = ok_then r calls more x.all_ok y.all_ok;
      reached = subst Q (sym (run_joined r calls more)) y.reached;
    }

-- ticks move the clock and nothing else
ticks_ok :
    (r : Record) (count : ℕ)
    → is_record r ≡ true
    → r.clock + count ≤ last_time
    → AllOk r (ticks count)
ticks_ok r zero good h = tt
ticks_ok r (suc count) good h =
    let on = ticks_on r good (λ q. omega arith) in
    let more = ticks_ok (with_clock r (r.clock + 1)) count good (omega arith) in
    (ap (λ (y : Outcome). y.reply) on, subst (λ (y : Outcome). AllOk y.next (ticks count)) (sym on) more)

pub went_ticks :
    {P : Record → Type 0} {r : Record} (count : ℕ)
    → is_record r ≡ true
    → r.clock + count ≤ last_time
    → P (with_clock r (r.clock + count))
    → Went P r (ticks count)
went_ticks {P} {r} count good h x = record {
  all_ok = ticks_ok r count good h;
  reached = subst P (sym (ticks_clock r count good h)) x;
}

-- a description that says how far the calls have come goes up with them
pub went_each :
    (P : ℕ → Record → Type 0) (f : ℕ → List Call) (n : ℕ)
    → ((k : ℕ) (now : Record) → k < n → P k now → Went (P (suc k)) now (f k))
    → (now : Record)
    → P 0 now
    → Went (P n) now (each n f)
unfolding each
went_each P f zero g now x = went_none x
went_each P f (suc n) g now x =
    went_then (each n f) (f n)
    (went_each P f n (λ k q h. g k q (omega arith)) now x)
    (λ q y. g n q (omega arith) y)

-- for the members of a set: where k is one its call is made, and where it is none nothing is
pub went_members :
    (P : ℕ → Record → Type 0) (n set : ℕ) (c : ℕ → Call)
    → ((k : ℕ) (now : Record) → k < n → P k now → bit set k ≡ true → Went (P (suc k)) now (c k ∷ []))
    → ((k : ℕ) (now : Record) → k < n → P k now → bit set k ≡ false → P (suc k) now)
    → (now : Record)
    → P 0 now
    → Went (P n) now (call_members n set c)
went_members P n set c made left =
    went_each P (λ k. pick (bit set k) (c k ∷ []) []) n
    (λ k now h x. by_member k now (bit set k) (made k now h x) (left k now h x))
  where
    by_member :
        (k : ℕ) (now : Record) (b : Bool)
        → (b ≡ true → Went (P (suc k)) now (c k ∷ []))
        → (b ≡ false → P (suc k) now)
        → Went (P (suc k)) now (pick b (c k ∷ []) [])
    by_member k now true f g = f refl
    by_member k now false f g = went_none (g refl)
