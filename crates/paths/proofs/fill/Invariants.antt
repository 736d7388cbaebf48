-- The rows above row i are filled (`Rows`).
use Rattle.area.specs.Limits.{width}
use Rattle.area.proofs.RowLaws.{Rows}
use Rattle.topology.specs.Cells.{distance_cell, hop_cell}
use Rattle.paths.proofs.fill.Given as goal

abbrev pub invariant-loop-i : goal.invariant-loop-i
invariant-loop-i l = record {
  distances : Rows width (distance_cell l.n l.metric) l.i l.dist;
  sets : Rows width (hop_cell l.n l.metric) l.i l.hops;
}
