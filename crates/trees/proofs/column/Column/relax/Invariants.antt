-- The routers that have come have the offer of q, and the others are as they were (`Relaxing`).
use Rattle.std.proofs.Common.{◌≡◌, ◌+◌, ℕ, List}
use Rattle.area.specs.Limits.{width}
use Rattle.area.specs.Tables.{cell}
use Rattle.area.specs.Lists.{◌∈◌}
use Rattle.sets.specs.Sets.{added}
use Rattle.trees.specs.Turns.{entry, Offered}
use Rattle.trees.proofs.column.Column.relax.Given as goal

-- what router i has of the way by q: d₀ and h₀ are the columns before, d and h those now
abbrev pub HasOffer : (m : List ℕ) (q : ℕ) (d₀ h₀ d h : List ℕ) (i : ℕ) → Type 0
HasOffer m q d₀ h₀ d h i =
    Offered (entry d₀ q + cell width m i q) (added width 0 q) (entry d₀ i) (entry h₀ i) (entry d i) (entry h i)

pub record Relaxing (m : List ℕ) (q : ℕ) (d₀ h₀ d h : List ℕ) (xs : List ℕ) : Type 0 where
  pub come : (i : ℕ) → i ∈ xs → HasOffer m q d₀ h₀ d h i
  pub others : (i : ℕ) → (i ∈ xs → ⊥) → (entry d i ≡ entry d₀ i) × (entry h i ≡ entry h₀ i)

abbrev pub invariant-loop-i : goal.invariant-loop-i
invariant-loop-i l =
    Relaxing l.links.metric.now l.q l.fn.self.dist l.fn.self.hops l.self.dist l.self.hops l.yielded
