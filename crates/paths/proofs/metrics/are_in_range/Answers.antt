-- One metric more is one test more (`all_next`).
use Rattle.std.proofs.Common.{◌≡◌, sym, ap, ◌∙◌, ℕ, suc, ◌+◌, ◌&&◌, Bool, length, get_or, arith}
use Rattle.std.proofs.lemmas.Grind.{common_steps}
use Rattle.area.specs.Tests.{all}
use Rattle.area.proofs.TestLaws.{all_none, all_next}
use Rattle.paths.specs.Paths.{in_range}
use Rattle.paths.proofs.metrics.are_in_range.Goals as goal

pub loop-m-init : goal.loop-m-init
loop-m-init c = sym (all_none (λ k. in_range (get_or c.args.metrics.now k 0)))

more :
    (p : ℕ → Bool) (j : ℕ) (valid own : Bool)
    → valid ≡ all j p
    → own ≡ p j
    → (valid && own) ≡ all (j + 1) p
more p j valid own e f =
    let count : suc j ≡ j + 1 = omega arith in
    rw (e, f) (sym (all_next j p) ∙ ap (λ (x : ℕ). all x p) count)

pub loop-m-preserved : goal.loop-m-preserved
loop-m-preserved c =
    let own : c.contains-valid.result ≡ in_range (get_or c.args.metrics.now c.loop-m.m-index 0) =
    grind (arith, common_steps) in
    more (λ k. in_range (get_or c.args.metrics.now k 0)) _ _ _ c.loop-m.invariant own

pub returns : goal.returns
returns c =
    let end : c.loop-m.m-index ≡ length c.args.metrics.now = omega arith in
    c.loop-m.invariant ∙ ap (λ (x : ℕ). all x (λ k. in_range (get_or c.args.metrics.now k 0))) end
