-- The lines of the routers below i are there.
use Rattle.text.specs.Text.{Writes}
use Rattle.report.specs.Lines.{unfinished_lines}
use Rattle.report.proofs.unfinished_routers.unfinished_lines.Given as goal

abbrev pub invariant-loop-i : goal.invariant-loop-i
invariant-loop-i l = Writes l.fn.text (unfinished_lines l.last l.i) l.text
