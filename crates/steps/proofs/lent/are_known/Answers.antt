use Rattle.std.proofs.Common.{◌≡◌, ℕ, ◌≤◌, ◌<◌, leb, get_or, le-leb, leb-true, List, arith}
use Rattle.area.specs.Limits.{width}
use Rattle.area.specs.Tests.{all}
use Rattle.area.proofs.TestLaws.{same_test, all_at, all_true}
use Rattle.machine.specs.Machine.{done}
use Rattle.steps.proofs.lent.are_known.Goals as goal

-- no state is above m
abbrev Below : (s : List ℕ) (m : ℕ) → Type 0
Below s m = (k : ℕ) → k < width → get_or s k 0 ≤ m

known :
    (s : List ℕ) (m : ℕ)
    → Below s m
    → (Below s done → m ≤ done)
    → leb m done ≡ all width (λ i. leb (get_or s i 0) done)
known s m f g =
    same_test (leb m done) (all width (λ i. leb (get_or s i 0) done))
    (λ t. let u = leb-true m done t in
    all_true width _ (λ k h. le-leb (get_or s k 0) done (let l = f k h in omega arith)))
    (λ t. le-leb m done (g (λ k h. leb-true (get_or s k 0) done (all_at width _ t k h))))

pub returns : goal.returns
returns c =
    let end : c.loop-state.state-index ≡ width = omega arith in
    known c.args.states.now c.loop-state.largest
    (λ k h. c.loop-state.invariant.0 k (omega arith))
    (λ f. c.loop-state.invariant.1 (λ k h. f k (omega arith)))
