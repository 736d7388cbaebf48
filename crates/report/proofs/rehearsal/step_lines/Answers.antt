use Rattle.std.proofs.Common.{List, ℕ, ◌+◌, sym, subst, arith}
use Rattle.std.proofs.lemmas.List.{take_rest}
use Rattle.machine.specs.Answers.{reply_of, gives}
use Rattle.machine.specs.Run.{replies, calls_of}
use Rattle.report.specs.Lines.{step_lines}
use Rattle.report.proofs.LineLaws.{Rest, rest_more, rest_all}
use Rattle.report.proofs.rehearsal.step_lines.Goals as goal

pub loop-left-init : goal.loop-left-init
loop-left-init c = record { counted = omega arith; rest = λ x y. y }

pub loop-left-preserved : goal.loop-left-preserved
loop-left-preserved c =
    let h = c.loop-left in
    let l = h.left.now in
    let o = gives c.apply.new.bench (reply_of c.apply.result) in
    let all = step_lines 1 (replies c.args.fresh.now (calls_of c.args.bytes.now)) in
    let first = c.args.text.now in
    record {
      counted = omega arith;
      rest =
          subst (λ (k : List ℕ). Rest first all c.step_line.new.text (h.k + 1) o.next k) (sym (take_rest l 3))
          (rest_more first all _ _ _ l h.invariant.rest o _ c.apply.ensures.outcome (omega arith)
          c.step_line.ensures.line);
    }

pub returns : goal.returns
returns c =
    let h = c.loop-left in
    record { lines = rest_all _ _ _ _ _ h.left.now h.invariant.rest (omega arith) }
