-- The table that is worked out aside holds the new metrics, and the pairs of the changes are enough. The two tests are
-- then those of a rise and of a fall, and decide the answer.
use Rattle.std.proofs.Common.{◌≡◌, ℕ, ◌≤◌, refl, ap, ◌∙◌, Bool, not, ◌&&◌, ◌||◌, List}
use Rattle.area.specs.Limits.{width}
use Rattle.area.specs.Refusals.{same_metric, mixed}
use Rattle.area.specs.Tests.{pick}
use Rattle.plan.specs.NewMetrics.{new_metrics}
use Rattle.plan.specs.Direction.{is_rise, is_fall}
use Rattle.plan.specs.Parts.{direction_refusal, are_listed_at_most}
use Rattle.plan.proofs.DirectionLaws.{same_both, listed_rise, listed_fall}
use Rattle.plan.proofs.direction.direction_of.Goals as goal

module _ (n : ℕ) (m l : List ℕ) (most : n ≤ width) {new : List ℕ} (applied : new ≡ new_metrics n m l) where
  rises : {t : Bool} → t ≡ are_listed_at_most n m new l → t ≡ is_rise n m l
  rises is = is ∙ ap (λ (o : List ℕ). are_listed_at_most n m o l) applied ∙ listed_rise n m l most

  falls : {t : Bool} → t ≡ are_listed_at_most n new m l → t ≡ is_fall n m l
  falls is = is ∙ ap (λ (o : List ℕ). are_listed_at_most n o m l) applied ∙ listed_fall n m l most

  answer :
      {rising falling : Bool}
      → rising ≡ are_listed_at_most n m new l
      → falling ≡ are_listed_at_most n new m l
      → pick (rising && falling) same_metric (pick (not (rising || falling)) mixed 0) ≡ direction_refusal n m l
  unfolding direction_refusal
  answer a b = rw (rises a, falls b, same_both n m l) refl

pub returns-in-true-true-clause-answer : goal.returns-in-true-true-clause-answer
returns-in-true-true-clause-answer c =
    let a = c.args in
    answer a.n a.old.now a.list.now c.requires.0 c.apply.ensures.cells c.in-true-true.ensures c.in-true-true.ensures'

pub returns-in-true-false-clause-answer : goal.returns-in-true-false-clause-answer
returns-in-true-false-clause-answer c =
    let a = c.args in
    answer a.n a.old.now a.list.now c.requires.0 c.apply.ensures.cells c.in-true-false.ensures c.in-true-false.ensures'

pub returns-in-true-false-clause-direction : goal.returns-in-true-false-clause-direction
returns-in-true-false-clause-direction c =
    let a = c.args in
    rises a.n a.old.now a.list.now c.requires.0 c.apply.ensures.cells c.in-true-false.ensures

pub returns-in-false-true-clause-answer : goal.returns-in-false-true-clause-answer
returns-in-false-true-clause-answer c =
    let a = c.args in
    answer a.n a.old.now a.list.now c.requires.0 c.apply.ensures.cells c.in-false-true.ensures c.in-false-true.ensures'

pub returns-in-false-true-clause-direction : goal.returns-in-false-true-clause-direction
returns-in-false-true-clause-direction c =
    let a = c.args in
    rises a.n a.old.now a.list.now c.requires.0 c.apply.ensures.cells c.in-false-true.ensures

pub returns-in-false-false-clause-answer : goal.returns-in-false-false-clause-answer
returns-in-false-false-clause-answer c =
    let a = c.args in
    let none = c.in-false-false in
    answer a.n a.old.now a.list.now c.requires.0 c.apply.ensures.cells none.ensures none.ensures'
