-- The lines of the turns before turn k are there.
use Rattle.text.specs.Text.{Writes}
use Rattle.report.specs.Lines.{turn_lines}
use Rattle.report.proofs.turns.turn_lines.Given as goal

abbrev pub invariant-loop-k : goal.invariant-loop-k
invariant-loop-k l = Writes l.fn.text (turn_lines l.fresh l.places l.k) l.text
