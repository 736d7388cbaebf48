-- A member that is nearer takes the place of those before (`takes`), one that is as near joins them (`joins`), and any
-- other is passed over (`skips`).
use Rattle.std.proofs.Common.{◌≡◌, ◌≢◌, ◌⊎◌, ◌<◌, ◌≤◌, ℕ, List, [], ◌∷◌, ◌++◌, true}
use Rattle.std.proofs.Common.{refl, sym, ap, ◌∙◌, inl, inr, ⊎_elim, rules, arith}
use Rattle.area.specs.Limits.{width, unreached}
use Rattle.sets.specs.Sets.{bit, added}
use Rattle.sets.proofs.SetLaws.{member_some, no_members, added_self, added_cases}
use Rattle.sets.proofs.MembersLaws.{Turn, loop_turn, loop_more, loop_end}
use Rattle.trees.specs.Turns.{entry}
use Rattle.trees.proofs.nearest.nearest.Invariants.{Seen}
use Rattle.trees.proofs.nearest.nearest.Goals as goal

module _
    {d : List ℕ} {s least low : ℕ} {xs : List ℕ} (seen : Seen d s least low xs) {q : ℕ} (turn : Turn s xs q) where
  has : (t : ℕ) {least' : ℕ} → least' ≡ added width t q → least' ≢ 0
  has t {least'} e = member_some least' q (ap (λ (x : ℕ). bit x q) e ∙ added_self width t q turn.inside)

  takes : {least' : ℕ} → entry d q < low → least' ≡ added width 0 q → Seen d s least' (entry d q) (xs ++ q ∷ [])
  takes l is = record {
    come = loop_more (λ k. entry d q ≤ entry d k) xs q seen.come (λ k o b. omega arith) (omega arith);
    part = λ k b. ⊎_elim
        (λ old. absurd (member_some 0 k old refl))
        (λ (new : k ≡ q). rw new (turn.member, refl))
        (added_cases width 0 q k (rw is at b));
    some = inr (has 0 is);
  }

  joins : {least' : ℕ} → entry d q ≡ low → least' ≡ added width least q → Seen d s least' low (xs ++ q ∷ [])
  joins l is = record {
    come = loop_more (λ k. low ≤ entry d k) xs q seen.come (λ k o b. b) (omega arith);
    part = λ k b. ⊎_elim (seen.part k) (λ (new : k ≡ q). rw new (turn.member, l))
        (added_cases width least q k (rw is at b));
    some = inr (has least is);
  }

  skips : low < entry d q → entry d q ≤ unreached → Seen d s least low (xs ++ q ∷ [])
  skips l top = record {
    come = loop_more (λ k. low ≤ entry d k) xs q seen.come (λ k o b. b) (omega arith);
    part = seen.part;
    some = ⊎_elim (λ w. absurd (let x : ⊥ = omega (arith, w.1) in x)) inr seen.some;
  }

  -- the two tests, and what each leaves
  visits :
      {low' cut least' : ℕ}
      → entry d q ≤ unreached
      → ((entry d q < low) × (low' ≡ entry d q) × (cut ≡ 0)) ⊎ ((low ≤ entry d q) × (low' ≡ low) × (cut ≡ least))
      → ((entry d q ≡ low') × (least' ≡ added width cut q)) ⊎ ((entry d q ≢ low') × (least' ≡ cut))
      → Seen d s least' low' (xs ++ q ∷ [])
  visits top (inl a) (inl b) = rw a.1 (takes a.0 (rw a.2 at b.1))
  visits top (inl a) (inr b) = absurd (b.0 (sym a.1))
  visits top (inr a) (inl b) = rw a.1 (joins (b.0 ∙ a.1) (rw a.2 at b.1))
  visits top (inr a) (inr b) =
      rw (a.1, b.1, a.2) (skips (other a.0 (λ e. b.0 (e ∙ sym a.1))) top)
    where
      other : {x y : ℕ} → y ≤ x → x ≢ y → y < x
      other l f = omega arith

pub loop-k-init : goal.loop-k-init
loop-k-init c = record {
  come = λ k m. absurd m;
  part = λ k b. absurd (member_some 0 k b refl);
  some = inl (refl, refl);
}

pub loop-k-preserved-then-d-low-2 : goal.loop-k-preserved-then-d-low-2
loop-k-preserved-then-d-low-2 c =
    let at = c.loop-k in
    let turn = loop_turn at.yielded _ _ c.args.set (search rules) at.yielded_by _ _ c.in-Some.ensures.steps in
    visits at.invariant turn {cut = c.if-d-low.least} (omega (arith, c.fits-dist c.in-Some.k))
    (search rules) (inl (c.if-d-low-2.true, c.add-least.ensures.set))

pub loop-k-preserved : goal.loop-k-preserved
loop-k-preserved c =
    let at = c.loop-k in
    let turn = loop_turn at.yielded _ _ c.args.set (search rules) at.yielded_by _ _ c.in-Some.ensures.steps in
    visits at.invariant turn {cut = c.if-d-low.least} (omega (arith, c.fits-dist c.in-Some.k))
    (search rules) (inr (c.if-d-low-2.false, refl))

pub returns : goal.returns
returns c =
    let at = c.loop-k in
    let seen = at.invariant in
    let all = loop_end at.yielded _ _ c.args.set (search rules) at.yielded_by c.in-None.ensures.steps.0 (omega arith) in
    record {
      part = λ k b. (seen.part k b).0;
      first = λ k j b m. omega (arith, (seen.part k b).1, seen.come j (all j m));
      some = λ f. ⊎_elim (λ w. absurd (f (none (λ k b. rw w.0 at (all k b))))) (λ g. g) seen.some;
    }
  where
    none : {s : ℕ} → ((k : ℕ) → bit s k ≡ true → ⊥) → s ≡ 0
    none {s} f = no_members s f
