-- An equation on an answer's number decides the answer: a refusal can be told from its number (`numbered`), and no
-- refusal has the number 0, which is that of "accepted".
--     refusal_positive     no refusal has the number 0
--     same_refusal         refusals with the same number are the same
--     same_verdict         and so are answers that hand nothing back
--     same_answer          of any two answers: both accept, or both refuse for the same reason
use Rattle.std.specs.Prelude.{ℕ, ◌≤◌, ◌≡◌, refl, eqb, Result, Ok, Err}
use Rattle.std.proofs.Common.{sym, ap, ◌∙◌, arith}
use Rattle.area.specs.declared.refusal.Refusal.{Refusal}
use Rattle.area.specs.declared.refusal.Refusal.TheVariants.{Incomplete, Trailing, RouterCount}
use Rattle.area.specs.declared.refusal.Refusal.TheVariants.{UnknownRouter, SelfLink, Metric, Repeated}
use Rattle.area.specs.declared.refusal.Refusal.TheVariants.{TableSize, TooMany, NoChange, SameMetric}
use Rattle.area.specs.declared.refusal.Refusal.TheVariants.{Mixed, NoCommonRouter, Record, Kind, State}
use Rattle.area.specs.declared.refusal.Refusal.TheVariants.{Waiting, NotDue, Unwritten, NotDone, NotTold}
use Rattle.area.specs.declared.refusal.Refusal.TheVariants.{DeadLink, PastList, LongSubTlvs, UnknownIdentity}
use Rattle.area.specs.declared.refusal.Refusal.TheVariants.{TooEarly, ClockEnd, NoStepTime}
use Rattle.area.specs.Tests.{pick}
use Rattle.area.specs.Refusals.{refusal_number, verdict_number}
use Rattle.area.specs.Refusals.{incomplete, trailing, router_count, unknown_router, self_link, bad_metric, repeated}
use Rattle.area.specs.Refusals.{table_size, too_many, no_change, same_metric, mixed, no_common_router, bad_record}
use Rattle.area.specs.Refusals.{unknown_kind, wrong_state, still_waiting, not_due, unwritten, not_done, not_told}
use Rattle.area.specs.Refusals.{dead_link, past_list, long_sub_tlvs, unknown_identity, too_early, clock_end}

-- the refusal of a number
abbrev numbered : ℕ → Refusal
numbered n =
    pick (eqb n incomplete) Incomplete
    (pick (eqb n trailing) Trailing
    (pick (eqb n router_count) RouterCount
    (pick (eqb n unknown_router) UnknownRouter
    (pick (eqb n self_link) SelfLink
    (pick (eqb n bad_metric) Metric
    (pick (eqb n repeated) Repeated
    (pick (eqb n table_size) TableSize
    (pick (eqb n too_many) TooMany
    (pick (eqb n no_change) NoChange
    (pick (eqb n same_metric) SameMetric
    (pick (eqb n mixed) Mixed
    (pick (eqb n no_common_router) NoCommonRouter
    (pick (eqb n bad_record) Record
    (pick (eqb n unknown_kind) Kind
    (pick (eqb n wrong_state) State
    (pick (eqb n still_waiting) Waiting
    (pick (eqb n not_due) NotDue
    (pick (eqb n unwritten) Unwritten
    (pick (eqb n not_done) NotDone
    (pick (eqb n not_told) NotTold
    (pick (eqb n dead_link) DeadLink
    (pick (eqb n past_list) PastList
    (pick (eqb n long_sub_tlvs) LongSubTlvs
    (pick (eqb n unknown_identity) UnknownIdentity
    (pick (eqb n too_early) TooEarly
    (pick (eqb n clock_end) ClockEnd
    NoStepTime))))))))))))))))))))))))))

of_number : (k : Refusal) → numbered (refusal_number k) ≡ k
of_number Incomplete = refl
of_number Trailing = refl
of_number RouterCount = refl
of_number UnknownRouter = refl
of_number SelfLink = refl
of_number Metric = refl
of_number Repeated = refl
of_number TableSize = refl
of_number TooMany = refl
of_number NoChange = refl
of_number SameMetric = refl
of_number Mixed = refl
of_number NoCommonRouter = refl
of_number Record = refl
of_number Kind = refl
of_number State = refl
of_number Waiting = refl
of_number NotDue = refl
of_number Unwritten = refl
of_number NotDone = refl
of_number NotTold = refl
of_number DeadLink = refl
of_number PastList = refl
of_number LongSubTlvs = refl
of_number UnknownIdentity = refl
of_number TooEarly = refl
of_number ClockEnd = refl
of_number NoStepTime = refl

pub refusal_positive : (k : Refusal) → 1 ≤ refusal_number k
refusal_positive Incomplete = omega arith
refusal_positive Trailing = omega arith
refusal_positive RouterCount = omega arith
refusal_positive UnknownRouter = omega arith
refusal_positive SelfLink = omega arith
refusal_positive Metric = omega arith
refusal_positive Repeated = omega arith
refusal_positive TableSize = omega arith
refusal_positive TooMany = omega arith
refusal_positive NoChange = omega arith
refusal_positive SameMetric = omega arith
refusal_positive Mixed = omega arith
refusal_positive NoCommonRouter = omega arith
refusal_positive Record = omega arith
refusal_positive Kind = omega arith
refusal_positive State = omega arith
refusal_positive Waiting = omega arith
refusal_positive NotDue = omega arith
refusal_positive Unwritten = omega arith
refusal_positive NotDone = omega arith
refusal_positive NotTold = omega arith
refusal_positive DeadLink = omega arith
refusal_positive PastList = omega arith
refusal_positive LongSubTlvs = omega arith
refusal_positive UnknownIdentity = omega arith
refusal_positive TooEarly = omega arith
refusal_positive ClockEnd = omega arith
refusal_positive NoStepTime = omega arith

pub same_refusal : (j k : Refusal) → refusal_number j ≡ refusal_number k → j ≡ k
same_refusal j k e = sym (of_number j) ∙ ap numbered e ∙ of_number k

pub same_verdict : (v w : Result Unit Refusal) → verdict_number v ≡ verdict_number w → v ≡ w
same_verdict (Ok _) (Ok _) e = refl
same_verdict (Ok _) (Err k) e = absurd (let x : ⊥ = omega (arith, refusal_positive k) in x)
same_verdict (Err j) (Ok _) e = absurd (let x : ⊥ = omega (arith, refusal_positive j) in x)
same_verdict (Err j) (Err k) e = ap Err (same_refusal j k e)

-- an answer without what it hands back
abbrev pub verdict_of : {T : Type 0} → Result T Refusal → Result Unit Refusal
verdict_of (Ok _) = Ok tt
verdict_of (Err k) = Err k

number_of_verdict : {T : Type 0} (v : Result T Refusal) → verdict_number (verdict_of v) ≡ verdict_number v
number_of_verdict (Ok _) = refl
number_of_verdict (Err k) = refl

pub same_answer :
    {T U : Type 0} (v : Result T Refusal) (w : Result U Refusal)
    → verdict_number v ≡ verdict_number w
    → verdict_of v ≡ verdict_of w
same_answer v w e =
    same_verdict (verdict_of v) (verdict_of w) (number_of_verdict v ∙ e ∙ sym (number_of_verdict w))
