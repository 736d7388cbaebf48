use Rattle.std.proofs.Common.{sym, ◌∙◌}
use Rattle.order.proofs.OrderLaws.{readable_sizes, due_read, due_none}
use Rattle.order.proofs.due_table.Goals as goal

pub returns-then-not-are_readable : goal.returns-then-not-are_readable
returns-then-not-are_readable c =
    record { due = sym (due_none c.args.n c.args.old.now c.args.new.now (sym c.if-not-are_readable.ensures)) }

pub due-requires : goal.due-requires
due-requires c = readable_sizes c.args.n c.args.old.now c.args.new.now (sym c.if-not-are_readable.ensures)

pub returns : goal.returns
returns c =
    let read = due_read c.args.n c.args.old.now c.args.new.now (sym c.if-not-are_readable.ensures) in
    record { due = c.due.ensures ∙ sym read }
