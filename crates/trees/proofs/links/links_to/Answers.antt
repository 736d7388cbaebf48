use Rattle.std.proofs.Common.{◌≡◌, ◌⊎◌, ◌+◌, ◌<◌, ◌≤◌, ℕ, inl, inr, ap, ◌∙◌, ltb, lt-ltb, le-ltb, rules, arith}
use Rattle.area.specs.Limits.{width, unused}
use Rattle.sets.specs.Sets.{set_of, added}
use Rattle.sets.proofs.SetLaws.{set_of_start, set_of_skip, set_of_more}
use Rattle.topology.specs.Topology.{topology}
use Rattle.topology.proofs.TopologyLaws.{usable_is}
use Rattle.trees.proofs.links.links_to.Goals as goal

-- the test of router i, and what it leaves
looked :
    (g : ℕ → ℕ) (i found next : ℕ)
    → found ≡ set_of i (λ k. ltb (g k) unused)
    → i < width
    → ((g i < unused) × (next ≡ added width found i)) ⊎ ((unused ≤ g i) × (next ≡ found))
    → next ≡ set_of (i + 1) (λ k. ltb (g k) unused)
looked g i found next is l (inl w) =
    w.1
    ∙ ap (λ (x : ℕ). added width x i) is
    ∙ set_of_more width i (λ k. ltb (g k) unused) l (lt-ltb (g i) unused w.0)
looked g i found next is l (inr w) =
    w.1 ∙ is ∙ set_of_skip i (λ k. ltb (g k) unused) (le-ltb (g i) unused w.0)

pub loop-i-init : goal.loop-i-init
loop-i-init c = set_of_start _

pub loop-i-preserved : goal.loop-i-preserved
loop-i-preserved c =
    let i = c.loop-i.i in
    let is = c.usable.ensures.answer ∙ usable_is c.args.n c.args.metric.now i c.args.q (omega arith) (omega arith) in
    looked (λ k. topology c.args.n c.args.metric.now k c.args.q) i c.loop-i.found _ c.loop-i.invariant (omega arith)
    (search rules)
