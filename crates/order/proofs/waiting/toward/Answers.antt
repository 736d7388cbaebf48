use Rattle.std.proofs.Common.{rules}
use borrow.Author.Tests.{tests}
use Rattle.area.specs.Limits.{width}
use Rattle.area.specs.Tables.{cell}
use Rattle.sets.proofs.EntryLaws.{entries_are}
use Rattle.order.proofs.waiting.toward.Goals as goal

pub returns : goal.returns
returns c =
    entries_are width c.args.n (λ r. cell width c.args.hops.now r c.args.root) c.from_fn.result
    (λ r x d l e. (
      search rules,
      record {
        inside = λ h. search (rules, tests);
        outside = λ h. search (rules, tests);
      },
    ))
    c.from_fn.ensures.items
