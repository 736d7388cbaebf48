-- The members below k are there.
use Rattle.text.specs.Text.{Writes}
use Rattle.report.specs.Lines.{member_text}
use Rattle.report.proofs.lines.member_text.Given as goal

abbrev pub invariant-loop-k : goal.invariant-loop-k
invariant-loop-k l = Writes l.fn.text (member_text l.set l.k) l.text
