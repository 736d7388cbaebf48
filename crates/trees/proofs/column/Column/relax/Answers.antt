use Rattle.std.proofs.Common.{◌+◌, ℕ, List, [], ◌∷◌, ◌++◌, refl, sym, ◌∙◌, inl, arith, rules}
use Rattle.std.proofs.lemmas.Bool.{false≢true}
use Rattle.area.specs.Limits.{width}
use Rattle.area.specs.Tables.{cell}
use Rattle.area.specs.Lists.{◌∈◌}
use Rattle.area.proofs.MemberLaws.{in_left, in_right}
use Rattle.sets.specs.Sets.{added}
use Rattle.sets.proofs.MembersLaws.{Turn, loop_turn, loop_more, loop_come, loop_end}
use Rattle.trees.specs.Turns.{entry, ColumnOffered}
use Rattle.trees.proofs.column.Column.relax.Invariants.{HasOffer, Relaxing}
use Rattle.trees.proofs.column.Column.relax.Goals as goal

offers :
    {m : List ℕ} {q links : ℕ} {d₀ h₀ d h : List ℕ} {xs : List ℕ} {i : ℕ}
    → Relaxing m q d₀ h₀ d h xs
    → Turn links xs i
    → {d' h' : List ℕ}
    → ColumnOffered (entry d₀ q + cell width m i q) (added width 0 q) i d h d' h'
    → Relaxing m q d₀ h₀ d' h' (xs ++ i ∷ [])
offers {m} {q} {links} {d₀} {h₀} {d} {h} {xs} {i} s turn {d'} {h'} o = record {
  come = loop_more (HasOffer m q d₀ h₀ d' h') xs i s.come keeps new;
  others = λ k f.
      let a = o.others k (λ e. f (in_right k xs (i ∷ []) (inl e))) in
      let b = s.others k (λ w. f (in_left k xs (i ∷ []) w)) in
      (a.0 ∙ b.0, a.1 ∙ b.1);
}
  where
    new : HasOffer m q d₀ h₀ d' h' i
    new =
        let was = s.others i (λ w. let x = turn.last i w in let z : ⊥ = omega arith in z) in
        rw (was.0, was.1) at o.offered

    keeps : (k : ℕ) → k ∈ xs → HasOffer m q d₀ h₀ d h k → HasOffer m q d₀ h₀ d' h' k
    keeps k w x =
        let before = turn.last k w in
        let a = o.others k (λ e. let z : ⊥ = omega arith in z) in
        rw (a.0, a.1) x

pub loop-i-init : goal.loop-i-init
loop-i-init c = record { come = λ i m. absurd m; others = λ i f. (refl, refl) }

pub overflow_add-sum-in-loop-i : goal.overflow_add-sum-in-loop-i
overflow_add-sum-in-loop-i c =
    let at = c.loop-i in
    let turn = loop_turn at.yielded _ _ c.args.ahead (search rules) at.yielded_by _ _ c.in-Some.ensures.steps in
    omega (arith, c.requires.fits c.in-Some.i turn.member)

pub loop-i-preserved : goal.loop-i-preserved
loop-i-preserved c =
    let at = c.loop-i in
    let turn = loop_turn at.yielded _ _ c.args.ahead (search rules) at.yielded_by _ _ c.in-Some.ensures.steps in
    offers at.invariant turn (rw c.add-by.ensures.set at c.offer.ensures)

pub returns : goal.returns
returns c =
    let at = c.loop-i in
    let s = at.invariant in
    let none = c.in-None.ensures.steps.0 in
    let all = loop_end at.yielded _ _ c.args.ahead (search rules) at.yielded_by none (omega arith) in
    let members = loop_come at.yielded _ _ c.args.ahead (search rules) at.yielded_by in
    record {
      linked = λ i b. s.come i (all i b);
      others = λ i b. s.others i (λ m. false≢true (sym b ∙ members i m));
    }
