-- A step keeps what is left; where no call is left, the record at hand is the last one.
use Rattle.std.proofs.Common.{List, ℕ, sym, ap, ◌∙◌, arith}
use Rattle.std.proofs.lemmas.List.{take_rest}
use Rattle.machine.specs.Answers.{reply_of, gives}
use Rattle.machine.specs.Run.{run, calls_of}
use Rattle.machine.proofs.CallLaws.{run_none, run_next}
use Rattle.steps.proofs.run.Goals as goal

pub loop-left-preserved : goal.loop-left-preserved
loop-left-preserved c =
    let h = c.loop-left in
    let l = h.left.now in
    let next = c.apply.new.bench in
    h.invariant
    ∙ run_next l 0 h.last (gives next (reply_of c.apply.result)) c.apply.ensures.outcome (omega arith)
    ∙ ap (λ (k : List ℕ). run next (calls_of k)) (sym (take_rest l 3))

pub returns : goal.returns
returns c =
    let h = c.loop-left in
    record { last = sym (h.invariant ∙ run_none h.left.now 0 h.last (omega arith)) }
