-- The column is written down to row i, in both tables.
use Rattle.area.specs.Limits.{width}
use Rattle.area.proofs.ColumnLaws.{ColumnTo}
use Rattle.trees.specs.Turns.{entry}
use Rattle.trees.proofs.column.Column.put.Given as goal

abbrev pub invariant-loop-i : goal.invariant-loop-i
invariant-loop-i l = record {
  distances : ColumnTo width l.fn.dist l.d l.i (entry l.self.dist) l.dist;
  sets : ColumnTo width l.fn.hops l.d l.i (entry l.self.hops) l.hops;
}
