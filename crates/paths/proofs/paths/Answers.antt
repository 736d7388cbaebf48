-- A refusal leaves the tables (`tables_kept`). Where none is given, they have the right size, and what `fill` and `cut`
-- leave are the tables of the topology.
use Rattle.std.proofs.Common.{◌≡◌, refl, sym, ap, ◌∙◌, List, ℕ, ◌*◌, length, get_or, arith}
use Rattle.area.specs.Limits.{width}
use Rattle.area.specs.Tables.{build, tabulate}
use Rattle.area.proofs.RefusalLaws.{refusal_positive}
use Rattle.area.proofs.TableLaws.{length_tabulate}
use Rattle.sets.specs.Four.{four}
use Rattle.topology.specs.Cells.{distance_cell, hop_cell}
use Rattle.paths.specs.Paths.{paths_in, filled_paths}
use Rattle.paths.proofs.FilledLaws.{fours_mapped}
use Rattle.paths.proofs.PathsLaws.{tables_kept, tables_filled, accepted_ready, accepted_sized}
use Rattle.paths.proofs.paths.Goals as goal

made :
    (n : ℕ) (m : List ℕ) {d h f : List ℕ}
    → d ≡ tabulate width (distance_cell n m)
    → h ≡ tabulate width (hop_cell n m)
    → f ≡ build (width * width) (λ k. four width (get_or h k 0))
    → paths_in d h f ≡ filled_paths n m
unfolding filled_paths
made n m {d} {h} {f} a b c = rw (a, c ∙ fours_mapped n m h b, b) refl

pub returns-in_err-judge-clause-tables : goal.returns-in_err-judge-clause-tables
returns-in_err-judge-clause-tables c =
    let some = refusal_positive c.in_err-judge.field-0.0 in
    sym (tables_kept _ _ _ (λ z. omega (arith, some, c.in_err-judge.ensures.answer)))

pub fill-requires-clause-n_le_width : goal.fill-requires-clause-n_le_width
fill-requires-clause-n_le_width c =
    let r = accepted_ready _ _ _ (sym c.in_ok-judge.ensures.answer) in
    (r.most, r.size)

pub fill-requires-clause-dist_len : goal.fill-requires-clause-dist_len
fill-requires-clause-dist_len c =
    let z = accepted_sized _ _ _ (sym c.in_ok-judge.ensures.answer) in
    (z.distances, z.hops)

pub cut-requires : goal.cut-requires
cut-requires c =
    let z = accepted_sized _ _ _ (sym c.in_ok-judge.ensures.answer) in
    (ap length c.fill.ensures.hops_after ∙ length_tabulate width (hop_cell _ _), z.fours)

pub returns-clause-tables : goal.returns-clause-tables
returns-clause-tables c =
    made _ _ c.fill.ensures.dist_after c.fill.ensures.hops_after c.cut.ensures
    ∙ sym (tables_filled _ _ _ (sym c.in_ok-judge.ensures.answer))
