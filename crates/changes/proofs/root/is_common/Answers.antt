use Rattle.std.proofs.Common.{◌||◌, eqb, tests, rules}
use Rattle.entries.proofs.ListLaws.{all_listed}
use Rattle.changes.specs.Root.{is_common}
use Rattle.changes.proofs.root.is_common.Goals as goal

pub returns : goal.returns
unfolding is_common
returns c = record {
  answer = all_listed c.args.list.now (λ x. eqb x.from c.args.c || eqb x.to c.args.c) _ _ _ c.all.ensures.ran
      c.of.ensures.first (λ x b q k. search (rules, tests));
}
