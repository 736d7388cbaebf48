-- The rows are tried in turn, up to one that has a bad link.
use Rattle.std.proofs.Common.{◌≡◌, refl, sym, ℕ, ◌+◌, ◌<◌, Bool, true, false, length, MatchBool, rules, arith, tests}
use Rattle.std.specs.List.{HoldsAt, AllWithin, range_with_len}
use Rattle.std.proofs.lemmas.Iterator.{cases_from_all, YieldsList-from_range}
use Rattle.std.proofs.lemmas.List.FromFn.{length-range_with_len, get_or-range_with_len}
use Rattle.area.specs.Tests.{all}
use Rattle.area.proofs.TestLaws.{all_true, all_false}
use Rattle.paths.specs.Paths.{are_metrics_from, are_metrics}
use Rattle.paths.proofs.metrics.are_valid.Goals as goal

-- a test of the numbers below n, one after another
tried :
    (n : ℕ) (p : ℕ → Bool) (r : Bool)
    → (let all_below = range_with_len 0 n in
    MatchBool r (AllWithin (λ x. p x ≡ true) all_below 0 (length all_below))
    ((k : ℕ) × (k < length all_below) × HoldsAt (λ x. p x ≡ false) all_below k))
    → r ≡ all n p
tried n p true h = sym (all_true n p (λ k b. passed k b))
  where
    passed : (k : ℕ) → k < n → p k ≡ true
    passed k b =
        let place : 0 + k ≡ k = omega arith in
        rw (get_or-range_with_len 0 n k 0 b, place) at (h k 0 (omega arith) (rw length-range_with_len b))
tried n p false h =
    let b : h.0 < n = rw length-range_with_len at h.1 in
    let place : 0 + h.0 ≡ h.0 = omega arith in
    sym (all_false n p h.0 b (rw (get_or-range_with_len 0 n h.0 0 b, place) at (h.2 0)))

pub returns : goal.returns
unfolding are_metrics
returns c =
    let test = are_metrics_from c.args.n c.args.metric.now in
    tried c.args.n test c.all.result
    (cases_from_all _ _ _ (λ i. test i ≡ true) (λ i. test i ≡ false) c.all.ensures.ran
    (YieldsList-from_range 0 c.args.n c.args.n refl (omega arith))
    (λ x q k. search (rules, tests)) (λ x q k. search (rules, tests)))
