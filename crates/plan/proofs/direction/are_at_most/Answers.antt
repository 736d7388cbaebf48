use Rattle.std.proofs.Common.{rules, tests}
use Rattle.entries.proofs.ListLaws.{all_listed}
use Rattle.plan.specs.Parts.{is_at_most, are_listed_at_most}
use Rattle.plan.proofs.direction.are_at_most.Goals as goal

pub returns : goal.returns
unfolding are_listed_at_most
returns c =
    let a = c.args in
    all_listed a.list.now (λ x. is_at_most a.n a.less.now a.more.now x.from x.to) _ _ _ c.all.ensures.ran
    c.of.ensures.first (λ x b q k. search (rules, tests))
