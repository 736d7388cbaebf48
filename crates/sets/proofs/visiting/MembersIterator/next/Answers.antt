-- `lowest` finds the first of the list, and `rest` leaves the others.
use Rattle.std.proofs.Common.{ap, ◌∙◌, arith, length}
use Rattle.area.specs.Limits.{width}
use Rattle.sets.specs.Members.{members}
use Rattle.sets.proofs.MembersLaws.{members_of_none}
use Rattle.sets.proofs.VisitLaws.{visit_first}
use Rattle.sets.proofs.visiting.MembersIterator.next.Goals as goal

pub returns-then-self-eq0-clause-steps : goal.returns-then-self-eq0-clause-steps
returns-then-self-eq0-clause-steps c =
    let e = ap (members width) c.if-self-eq0.true ∙ members_of_none width in
    (e, e)

pub returns-clause-steps : goal.returns-clause-steps
returns-clause-steps c =
    visit_first width _ _ _ (omega arith) c.if-self-eq0.false c.lowest-k.ensures.member c.rest-self.ensures.set

pub returns-clause-goes : goal.returns-clause-goes
returns-clause-goes c =
    let first =
    visit_first width _ _ _ (omega arith) c.if-self-eq0.false c.lowest-k.ensures.member c.rest-self.ensures.set in
    let more = ap length first in
    record { on = λ f. (tt, f, omega (arith, more)); keeps = tt; rests = λ f. tt }
