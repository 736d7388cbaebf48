-- The sum of 02, by what the sums of the two tables are.
use Rattle.std.proofs.Common.{◌≡◌, get_or, arith, rules}
use Rattle.area.specs.Limits.{width}
use Rattle.sets.specs.Counts.{size}
use Rattle.needs.specs.Needs.{sizes, needs}
use Rattle.needs.proofs.lent.needs.Goals as goal

pub returns : goal.returns
unfolding needs
returns c =
    let a = c.args in
    let due : c.total-due_sizes.result ≡ sizes a.n a.due.now =
    c.total-due_sizes.ensures.count (λ x. size width (get_or a.due.now x 0)) (λ x y e. search rules) in
    let waiting : c.total-waiting_sizes.result ≡ sizes a.n a.waiting.now =
    c.total-waiting_sizes.ensures.count (λ x. size width (get_or a.waiting.now x 0)) (λ x y e. search rules) in
    record { count = λ x. omega (arith, due, waiting) }
