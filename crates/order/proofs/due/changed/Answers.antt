use Rattle.std.proofs.Common.{◌≡◌, ℕ, ◌*◌, ◌<◌, ap, sym, ◌∙◌, refl, Bool, not, eqb, eq-eqb, ne_eqb, arith}
use Rattle.area.specs.Limits.{width}
use Rattle.area.specs.Tables.{cell}
use Rattle.sets.specs.Sets.{added}
use Rattle.sets.proofs.SetLaws.{set_of_start, set_of_skip, set_of_more}
use Rattle.order.proofs.OrderLaws.{row_length, row_at}
use Rattle.order.proofs.due.changed.Goals as goal
use Rattle.order.proofs.due.changed.Goals.{then-was-is, else-was-is}

pub loop-d-init : goal.loop-d-init
loop-d-init c = set_of_start _

pub loop-d-preserved : goal.loop-d-preserved
loop-d-preserved c =
    let a = c.args in
    let d = c.loop-d.d in
    let was : ℕ → ℕ = cell width a.old.now a.r in
    let is : ℕ → ℕ = cell width a.new.now a.r in
    let p : ℕ → Bool = λ k. not (eqb (was k) (is k)) in
    let inside : d < a.n = omega (arith, c.loop-d-test.true, row_length a.old.now (width * a.r) a.n (omega arith)) in
    let was_is = row_at a.old.now (width * a.r) a.n d inside in
    let is_is = row_at a.new.now (width * a.r) a.n d inside in
    elim c.if-was-is.branch [
      | then-was-is w ↦
          let other = ne_eqb (was d) (is d) (λ e. w.if-was-is.true (was_is ∙ e ∙ sym is_is)) in
          w.found-is
          ∙ w.add-found.ensures.set
          ∙ ap (λ (x : ℕ). added width x d) c.loop-d.invariant
          ∙ set_of_more width d p (omega arith) (rw other refl)
      | else-was-is w ↦
          let same = eq-eqb (was d) (is d) (sym was_is ∙ w.if-was-is.false ∙ is_is) in
          w.found-is ∙ c.loop-d.invariant ∙ set_of_skip d p (rw same refl)
    ]

pub returns : goal.returns
returns c =
    let a = c.args in
    let e : c.loop-d.d ≡ a.n = omega (arith, row_length a.old.now (width * a.r) a.n (omega arith)) in
    rw e at c.loop-d.invariant
