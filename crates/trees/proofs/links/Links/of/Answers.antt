use Rattle.std.proofs.Common.{rules}
use borrow.Author.Tests.{tests}
use Rattle.area.specs.Limits.{width}
use Rattle.sets.proofs.EntryLaws.{entries_are}
use Rattle.trees.specs.Turns.{links_to}
use Rattle.trees.proofs.links.Links.of.Goals as goal

pub invariant_of-result : goal.invariant_of-result
invariant_of-result c = record {
  few = c.requires.0;
  table = c.requires.1;
  used = entries_are width c.args.n (links_to c.args.n c.args.metric.now) c.from_fn-to.result
      (λ r x d l e. (
        search rules,
        record { inside = λ h. search (rules, tests); outside = λ h. search (rules, tests) },
      ))
      c.from_fn-to.ensures.items;
}
