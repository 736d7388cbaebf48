-- A turn lends the search row i of both tables; both have the right size, so the search fills them, and no other row is
-- touched.
use Rattle.std.proofs.Common.{◌≡◌, ◌<◌, ◌∙◌, arith}
use Rattle.area.specs.Limits.{width}
use Rattle.area.proofs.RowLaws.{lent_length, rows_more, rows_all}
use Rattle.search.proofs.RowsLaws.{sizes_true, distances_row, hops_row}
use Rattle.paths.proofs.fill.Goals as goal

pub loop-i-preserved : goal.loop-i-preserved
loop-i-preserved c =
    let at = c.loop-i in
    let l : at.i < width = omega arith in
    let size = lent_length width at.dist at.invariant.distances.size at.i l in
    let size_h = lent_length width at.hops at.invariant.sets.size at.i l in
    let sizes = sizes_true _ _ _ _ c.requires.n_le_width.0 c.requires.n_le_width.1 size size_h in
    record {
      distances = rows_more width _ at.i _ at.invariant.distances l c.search.new.dist c.search.auto.dist
          (c.search.ensures.distances ∙ distances_row _ _ _ _ _ sizes);
      sets = rows_more width _ at.i _ at.invariant.sets l c.search.new.hops c.search.auto.hops
          (c.search.ensures.hops ∙ hops_row _ _ _ _ _ sizes);
    }

pub returns : goal.returns
returns c =
    let at = c.loop-i in
    let e : at.i ≡ width = omega arith in
    record {
      dist_after = rows_all width _ _ (omega arith) (rw e at at.invariant.distances);
      hops_after = rows_all width _ _ (omega arith) (rw e at at.invariant.sets);
    }
