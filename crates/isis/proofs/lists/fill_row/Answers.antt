-- A law for each return, and for the next turn (proofs/LowerLaws.antt).
use Rattle.std.proofs.Common.{rules, arith, ap, ◌∙◌, ◌∷◌, ◌≡◌, List, Err}
use Rattle.area.specs.Limits.{width}
use Rattle.area.specs.Refusals.{verdict_number}
use Rattle.area.proofs.RefusalLaws.{refusal_positive}
use Rattle.tlv.specs.Items.{Read, items_at}
use Rattle.isis.proofs.IdentityLaws.{router_below}
use Rattle.isis.proofs.LowerLaws.{lowering_end, lowering_fault, lowering_refused, lowering_next}
use Rattle.isis.proofs.lists.fill_row.Goals as goal

pub returns-in_err-x-clause-answer : goal.returns-in_err-x-clause-answer
returns-in_err-x-clause-answer c =
    let k = c.in_err-x.field-0.0 in
    let is : c.from_residual.result ≡ Err k = search rules in
    let rest : List Read = items_at c.next.new.self.bytes.now c.next.new.self.at in
    ap verdict_number is
    ∙ lowering_fault _ _ _ _ _ c.loop-x.row c.loop-x.invariant.lowering rest k
    (c.in-Some.ensures.steps ∙ ap (λ (x : Read). x ∷ rest) c.in_err-x.was)

pub returns-in_err-j-clause-answer : goal.returns-in_err-j-clause-answer
returns-in_err-j-clause-answer c =
    let k = c.in_err-j.field-0.0 in
    let is : c.from_residual-in_err-j.result ≡ Err k = search rules in
    let rest : List Read = items_at c.next.new.self.bytes.now c.next.new.self.at in
    ap verdict_number is
    ∙ lowering_refused _ _ _ _ _ c.loop-x.row c.loop-x.invariant.lowering rest c.in_ok-x.x
    (c.in-Some.ensures.steps ∙ ap (λ (x : Read). x ∷ rest) c.in_ok-x.was) _ c.in_err-j.ensures.answer
    (λ z. let x : ⊥ = omega (arith, refusal_positive k, z) in x)

pub offset_bounds-row-j : goal.offset_bounds-row-j
offset_bounds-row-j c = omega (arith, router_below _ _ _ c.in_ok-j.ensures.router width c.requires.rows_in)

pub bounds-row-j : goal.bounds-row-j
bounds-row-j c =
    let within = router_below _ _ _ c.in_ok-j.ensures.router width c.requires.rows_in in
    omega (arith, within, c.loop-x.invariant.lowering.size)

pub offset_bounds-row-j-in-loop-x : goal.offset_bounds-row-j-in-loop-x
offset_bounds-row-j-in-loop-x c = omega (arith, router_below _ _ _ c.in_ok-j.ensures.router width c.requires.rows_in)

pub bounds-row-j-in-loop-x : goal.bounds-row-j-in-loop-x
bounds-row-j-in-loop-x c =
    let within = router_below _ _ _ c.in_ok-j.ensures.router width c.requires.rows_in in
    omega (arith, within, c.loop-x.invariant.lowering.size)

pub loop-x-preserved : goal.loop-x-preserved
loop-x-preserved c =
    let rest : List Read = items_at c.next.new.self.bytes.now c.next.new.self.at in
    let next = lowering_next _ _ _ _ _ c.loop-x.row c.loop-x.invariant.lowering rest c.in_ok-x.x
    (c.in-Some.ensures.steps ∙ ap (λ (x : Read). x ∷ rest) c.in_ok-x.was) c.in_ok-j.j c.in_ok-j.ensures.router
    (router_below _ _ _ c.in_ok-j.ensures.router width c.requires.rows_in) c.in_ok-j.ensures.answer in
    record {
      can = tt;
      ends = tt;
      lowering = search (rules, next);
    }

pub returns-clause-answer : goal.returns-clause-answer
returns-clause-answer c =
    lowering_end _ _ _ _ _ c.loop-x.row c.loop-x.invariant.lowering c.in-None.ensures.steps.0
