-- The metric table at exit, where something is refused and where nothing is.
use Rattle.std.proofs.Common.{rules, sym, ◌∙◌}
use Rattle.isis.proofs.IsisLaws.{read_filled, read_refused}
use Rattle.isis.proofs.read.Goals as goal

pub returns-then-is_err-clause-metrics : goal.returns-then-is_err-clause-metrics
returns-then-is_err-clause-metrics c =
    read_refused c.args.n c.args.identities.now c.args.lists.now c.args.table.now c.if-table-ne-CELLS.false
    c.fill-answer.result c.fill-answer.ensures.answer (sym c.is_err.ensures.value ∙ c.if-is_err.true)
    c.fill-answer.new.table _ (search rules) c.clear-then-is_err.ensures.cells

pub returns-else-is_err-clause-metrics : goal.returns-else-is_err-clause-metrics
returns-else-is_err-clause-metrics c =
    read_filled c.args.n c.args.identities.now c.args.lists.now c.args.table.now c.if-table-ne-CELLS.false
    c.fill-answer.result c.fill-answer.ensures.answer (sym c.is_err.ensures.value ∙ c.if-is_err.false)
    _ c.fill-answer.ensures.metrics
