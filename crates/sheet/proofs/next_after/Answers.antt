-- The routers are tried in turn, up to the first that could come: it is the lowest.
use Rattle.std.proofs.Common.{◌≡◌, ℕ, ◌≤◌, ◌<◌, Bool, true, false, get_or, rules, tests, arith}
use Rattle.std.specs.Option.{MatchOption, unwrap_or}
use Rattle.std.proofs.Common.{Option, Some, None}
use Rattle.std.proofs.lemmas.Iterator.{first_from_Range}
use Rattle.area.specs.Tests.{lowest}
use Rattle.area.proofs.LowestLaws.{lowest_first_lem, lowest_none}
use Rattle.sheet.specs.Sheet.{could_come}
use Rattle.sheet.proofs.next_after.Goals as goal

found :
    (n : ℕ) (p : ℕ → Bool) (r : Option ℕ)
    → MatchOption r ((k : ℕ) → 0 ≤ k → k < n → p k ≡ false)
    (λ i. (0 ≤ i) × (i < n) × (p i ≡ true) × ((k : ℕ) → 0 ≤ k → k < i → p k ≡ false))
    → (unwrap_or r n ≤ n) × (unwrap_or r n ≡ lowest n p)
found n p None none = (omega arith, lowest_none p n (λ k h. none k (omega arith) h))
found n p (Some i) f = (omega (arith, f.1), lowest_first_lem p n i f.1 (λ k h. f.3 k (omega arith) h) f.2)

pub returns : goal.returns
returns c =
    let p : ℕ → Bool = could_come (λ k. get_or c.args.waiting.now k 0) c.args.placed in
    rw c.unwrap_or.ensures
    (found c.args.n p c.find.result
    (first_from_Range _ _ _ _ (λ i. p i ≡ true) (λ i. p i ≡ false) c.find.ensures.ran
    (λ x q k. search (rules, tests)) (λ x q k. search (rules, tests))))
