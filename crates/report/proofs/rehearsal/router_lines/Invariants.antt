-- The lines of the routers below i are there.
use Rattle.text.specs.Text.{Writes}
use Rattle.report.specs.Lines.{router_lines}
use Rattle.report.proofs.rehearsal.router_lines.Given as goal

abbrev pub invariant-loop-i : goal.invariant-loop-i
invariant-loop-i l = Writes l.fn.text (router_lines l.fresh l.i) l.text
