use Rattle.std.proofs.Common.{◌≡◌, arith}
use Rattle.area.specs.Limits.{width}
use Rattle.area.proofs.ColumnLaws.{column_all}
use Rattle.trees.proofs.column.Column.put.Goals as goal

pub returns : goal.returns
returns c =
    let e : c.loop-i.i ≡ width = omega arith in
    record {
      distances = column_all width _ _ _ _ (omega arith) (rw e at c.loop-i.invariant.distances);
      next_hops = column_all width _ _ _ _ (omega arith) (rw e at c.loop-i.invariant.sets);
    }
