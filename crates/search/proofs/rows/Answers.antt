-- The rows of a router from n on stay blank, which is what the definition says of them.
use Rattle.std.specs.Prelude.{◌≡◌, get_or}
use Rattle.std.proofs.Common.{sym, ◌∙◌, inl, rules}
use Rattle.area.specs.Limits.{width, unreached}
use Rattle.area.proofs.TableLaws.{is_build}
use Rattle.topology.specs.Cells.{distance_cell, hop_cell}
use Rattle.topology.proofs.CellLaws.{distance_out, hops_out}
use Rattle.search.proofs.rows.Goals as goal

pub returns-else-source-n : goal.returns-else-source-n
returns-else-source-n c =
    let n = c.args.n in
    let m = c.args.metric.now in
    let s = c.args.source in
    record {
      dist_after = is_build width (distance_cell n m s) c.fill.new.self (c.fill.ensures.len ∙ c.requires.dist_len.0)
          (λ j l.
          let blank : get_or c.fill.new.self j 0 ≡ unreached = search rules in
          blank ∙ sym (distance_out n m s j (inl c.if-source-n.false)));
      hops_after = is_build width (hop_cell n m s) c.fill-2.new.self (c.fill-2.ensures.len ∙ c.requires.dist_len.1)
          (λ j l.
          let blank : get_or c.fill-2.new.self j 0 ≡ 0 = search rules in
          blank ∙ sym (hops_out n m s j (inl c.if-source-n.false)));
    }
