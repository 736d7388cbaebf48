use Rattle.std.proofs.Common.{rules, ℕ, get_or}
use borrow.Author.Tests.{tests}
use Rattle.area.specs.Limits.{width}
use Rattle.ranks.specs.Rank.{above}
use Rattle.sets.proofs.EntryLaws.{entries_are}
use Rattle.ranks.proofs.longer.Goals as goal

pub returns : goal.returns
returns c =
    let f : ℕ → ℕ = λ r. above c.args.n (get_or c.args.waiting.now r 0) (λ s. get_or c.args.ranks.now s 0) in
    entries_are width c.args.n f c.from_fn.result
    (λ r x d l e. (
      search rules,
      record {
        inside = λ h. search (rules, tests);
        outside = λ h. search (rules, tests);
      },
    ))
    c.from_fn.ensures.items
