use Rattle.std.proofs.Common.{sym, ◌∙◌, ⊎_elim, ne_eqb, arith}
use Rattle.std.proofs.lemmas.Bool.{lt-leb}
use Rattle.order.proofs.OrderLaws.{readable_is, readable_false}
use Rattle.order.proofs.are_readable.Goals as goal
use Rattle.order.proofs.are_readable.Goals.{then-n-le-WIDTH, else-n-le-WIDTH}

pub returns-then-old-eq-CELLS : goal.returns-then-old-eq-CELLS
returns-then-old-eq-CELLS c =
    readable_is c.args.n c.args.old.now c.args.new.now c.if-old-eq-CELLS.true.0 c.if-old-eq-CELLS.true.1

pub returns-else-old-eq-CELLS : goal.returns-else-old-eq-CELLS
returns-else-old-eq-CELLS c =
    let at = c.if-old-eq-CELLS.either in
    let none = readable_false c.args.n c.args.old.now c.args.new.now at in
    elim c.if-n-le-WIDTH.branch [
      | then-n-le-WIDTH w ↦
          w.t-5-is
          ∙ ne_eqb _ _ (⊎_elim (λ p. p.1) (λ l. absurd (omega (arith, l, w.if-n-le-WIDTH.true))) at)
          ∙ sym none
      | else-n-le-WIDTH w ↦ w.t-5-is ∙ lt-leb _ _ w.if-n-le-WIDTH.false ∙ sym none
    ]
