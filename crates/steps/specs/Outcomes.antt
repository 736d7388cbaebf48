-- What a method of the machine hands back, in terms of 01. `Stepped` is the struct of src/lib.rt.
use Rattle.machine.specs.Answers.{reply_of, Outcome, gives}
use Rattle.steps.specs.declared.Stepped.{Stepped}

-- the record and the answer, as an outcome
abbrev pub outcome_of : Stepped → Outcome
outcome_of s = gives s.next (reply_of s.answer)
