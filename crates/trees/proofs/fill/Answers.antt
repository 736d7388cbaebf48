-- What is blank from n on is so by definition.
use Rattle.std.proofs.Common.{ℕ, ◌≡◌, ◌∙◌, sym, inr, arith}
use Rattle.std.proofs.lemmas.List.{length-replicate}
use Rattle.area.specs.Limits.{width, unreached}
use Rattle.area.proofs.PerRouterLaws.{zeros_at}
use Rattle.area.proofs.ColumnLaws.{columns_more, columns_all, column_built}
use Rattle.topology.specs.Cells.{distance_cell, hop_cell}
use Rattle.topology.proofs.CellLaws.{distance_out, hops_out}
use Rattle.trees.proofs.fill.Goals as goal

pub invariant_of-column : goal.invariant_of-column
invariant_of-column c = record {
  sized = (length-replicate {A = ℕ} width unreached, length-replicate {A = ℕ} width 0);
  routers = λ i. let none = zeros_at width i in omega (arith, none);
}

pub loop-d-preserved : goal.loop-d-preserved
loop-d-preserved c =
    let at = c.loop-d in
    let l = c.args.links.now in
    record {
      distances = columns_more width _ _ at.d at.dist _ at.invariant.distances (omega arith)
          (c.put.ensures.distances
          ∙ column_built width at.dist at.d (λ i. distance_cell l.n l.metric.now i at.d) _ (omega arith)
          c.search.ensures.distances);
      sets = columns_more width _ _ at.d at.hops _ at.invariant.sets (omega arith)
          (c.put.ensures.next_hops
          ∙ column_built width at.hops at.d (λ i. hop_cell l.n l.metric.now i at.d) _ (omega arith)
          c.search.ensures.next_hops);
    }

pub returns : goal.returns
returns c =
    let n = c.args.links.now.n in
    let m = c.args.links.now.metric.now in
    let at = c.loop-d in
    let e : at.d ≡ n = omega arith in
    record {
      distances = columns_all width _ _ n at.dist (omega arith) (rw e at at.invariant.distances)
          (λ i j l. sym (distance_out n m i j (inr l)));
      hops = columns_all width _ _ n at.hops (omega arith) (rw e at at.invariant.sets)
          (λ i j l. sym (hops_out n m i j (inr l)));
    }
