-- The states that the methods of the machine hand back. `outcome_of back ≡ step_of ..` is what each of them ensures.
use Rattle.std.specs.Prelude.{ℕ, ◌≡◌, length, Ok}
use Rattle.std.proofs.Common.{sym, ap, ◌∙◌}
use Rattle.area.specs.Limits.{width}
use Rattle.plan.specs.declared.Record.{Record}
use Rattle.machine.specs.declared.Effect.TheVariants.{Applied}
use Rattle.machine.specs.declared.states.Event.{Event}
use Rattle.machine.specs.Answers.{reply_of, Outcome}
use Rattle.machine.specs.Machine.{state_of, step_of}
use Rattle.machine.specs.States.{kind_of, Goes}
use Rattle.machine.proofs.StateLaws.{state_after}
use Rattle.steps.specs.declared.Stepped.{Stepped}
use Rattle.steps.specs.Outcomes.{outcome_of}

-- after ok the record that is handed back has the next state
pub state_handed_back :
    (now : Record) (event : Event) (a b : ℕ) (back : Stepped)
    → length now.states ≡ width
    → outcome_of back ≡ step_of now (kind_of event) a b
    → back.answer ≡ Ok Applied
    → Goes now a event back.next
state_handed_back now event a b back size is is_ok =
    let said = ap (λ (o : Outcome). o.reply) (sym is) ∙ ap reply_of is_ok in
    let goes = state_after now event a b size said in
    (goes.0, goes.1, ap (λ (o : Outcome). state_of o.next a) is ∙ goes.2)
