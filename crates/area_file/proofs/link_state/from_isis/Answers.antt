-- What is printed for the parts of the stream is what is printed for the stream.
use Rattle.std.proofs.Common.{rules, ◌∙◌}
use Rattle.text.proofs.WriterLaws.{whole_text}
use Rattle.area_file.proofs.FromIsisLaws.{isis_is, isis_table_lem}
use Rattle.area_file.proofs.link_state.from_isis.Goals as goal

pub returns-clause-text : goal.returns-clause-text
returns-clause-text c =
    let is = isis_is c.args.stream.now c.args.table.now c.min-start.result c.min-lists.result c.two.result
    c.min-start.ensures c.two.ensures.number c.min-lists.ensures in
    let whole = rw is at (whole_text c.new-text.ensures.empty c.of_lists.ensures.text) in
    search (rules, whole)

pub returns-clause-metrics : goal.returns-clause-metrics
returns-clause-metrics c =
    c.of_lists.ensures.metrics
    ∙ isis_table_lem c.args.stream.now c.args.table.now c.min-start.result c.min-lists.result c.two.result
    c.min-start.ensures c.two.ensures.number c.min-lists.ensures
