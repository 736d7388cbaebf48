use Rattle.std.proofs.Common.{rules}
use borrow.Author.Tests.{tests}
use Rattle.area.specs.Limits.{width}
use Rattle.area.specs.Tables.{cell}
use Rattle.sets.proofs.EntryLaws.{entries_are}
use Rattle.order.specs.Order.{due_by}
use Rattle.order.proofs.due.due.Goals as goal

pub returns : goal.returns
returns c =
    let a = c.args in
    entries_are width a.n (due_by a.n (cell width a.old.now) (cell width a.new.now)) c.from_fn.result
    (λ r x d l e. (
      search rules,
      record {
        inside = λ h. search (rules, tests);
        outside = λ h. search (rules, tests);
      },
    ))
    c.from_fn.ensures.items
