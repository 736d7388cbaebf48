-- The three sums.
use Rattle.std.proofs.Common.{◌≡◌, ◌-◌, ℕ, get_or, arith, rules}
use Rattle.area.specs.Limits.{width}
use Rattle.sets.specs.Sets.{without}
use Rattle.sets.specs.Counts.{total, size}
use Rattle.machine.specs.Machine.{done}
use Rattle.needs.specs.Needs.{sizes, missing}
use Rattle.needs.proofs.lent.missing.Goals as goal

pub returns : goal.returns
unfolding missing
returns c =
    let a = c.args in
    let left : ℕ → ℕ = λ x. done - get_or a.states.now x 0 in
    let unwritten : ℕ → ℕ = λ x. size width (without width (get_or a.due.now x 0) (get_or a.written.now x 0)) in
    let states : c.total-states_left.result ≡ total a.n left =
    c.total-states_left.ensures.count left (λ x y e. search rules) in
    let sets : c.total-unwritten_sizes.result ≡ total a.n unwritten =
    c.total-unwritten_sizes.ensures.count unwritten (λ x y e. search rules) in
    let waiting : c.total-waiting_sizes.result ≡ sizes a.n a.waiting.now =
    c.total-waiting_sizes.ensures.count (λ x. size width (get_or a.waiting.now x 0)) (λ x y e. search rules) in
    record { count = λ x. omega (arith, states, sets, waiting) }
