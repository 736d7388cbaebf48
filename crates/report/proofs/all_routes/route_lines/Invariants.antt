-- The rows of the routers below i are there.
use Rattle.text.specs.Text.{Writes}
use Rattle.report.specs.Lines.{route_lines}
use Rattle.report.proofs.all_routes.route_lines.Given as goal

abbrev pub invariant-loop-i : goal.invariant-loop-i
invariant-loop-i l =
    Writes l.fn.text (route_lines l.old.dist.now l.old.hops.now l.new.dist.now l.new.hops.now l.n l.i) l.text
