-- The pairs of router i with the routers below j are there.
use Rattle.text.specs.Text.{Writes}
use Rattle.report.specs.Lines.{row_lines}
use Rattle.report.proofs.all_routes.row_lines.Given as goal

abbrev pub invariant-loop-j : goal.invariant-loop-j
invariant-loop-j l =
    Writes l.fn.text (row_lines l.old.dist.now l.old.hops.now l.new.dist.now l.new.hops.now l.i l.j) l.text
