-- The calls for the members below x are there.
use Rattle.text.specs.Text.{Writes}
use Rattle.machine.specs.Kinds.{kind_number}
use Rattle.machine.specs.Run.{call}
use Rattle.sheet.specs.Follow.{call_members}
use Rattle.report.specs.Lines.{call_lines}
use Rattle.report.proofs.step_section.member_calls.Given as goal

abbrev pub invariant-loop-x : goal.invariant-loop-x
invariant-loop-x l =
    Writes l.fn.text (call_lines (call_members l.x l.set (λ x. call (kind_number l.kind) l.a x))) l.text
