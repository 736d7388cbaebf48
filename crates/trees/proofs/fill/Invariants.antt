-- The columns before column d are filled and the others blank (`Columns`).
use Rattle.area.specs.Limits.{width, unreached}
use Rattle.area.proofs.ColumnLaws.{Columns}
use Rattle.topology.specs.Cells.{distance_cell, hop_cell}
use Rattle.trees.proofs.fill.Given as goal

abbrev pub invariant-loop-d : goal.invariant-loop-d
invariant-loop-d l = record {
  distances : Columns width (distance_cell l.links.n l.links.metric.now) (λ _ _. unreached) l.d l.dist;
  sets : Columns width (hop_cell l.links.n l.links.metric.now) (λ _ _. 0) l.d l.hops;
}
