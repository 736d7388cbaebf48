-- The lines of the links among the cells before k are written.
use Rattle.text.specs.Text.{Writes}
use Rattle.area_file.specs.AreaFile.{listed, link_lines}
use Rattle.area_file.proofs.link_lines.Given as goal

abbrev pub invariant-loop-k : goal.invariant-loop-k
invariant-loop-k l = Writes l.fn.out (link_lines (listed l.n l.metrics l.k)) l.out
