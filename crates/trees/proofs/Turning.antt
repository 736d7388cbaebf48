-- A turn, router by router: those of β offer their ways one after another, and xs are those that have. The
-- columns d₀ and h₀ are those before the turn, d and h those now; σ are the routers that are settled, those of β too.
--     Turning          the offers of the others have been made
--     turning_none     none has offered yet
--     base             the distance of a router that offers is what it was
--     room             the sums that it offers fit
--     turning_more     one more has offered
--     turned           all have
use Prim.Native.Nat.{ℕ, ◌+◌, ◌^◌, ◌<◌, ◌≤◌}
use mathlib.Core.Path.{◌≡◌, refl, sym, ap, ◌∙◌}
use mathlib.Core.Bool.{true, false, not, false≢true}
use mathlib.Core.Logic.{◌↔◌, ◌⊎◌, inl, inr, ⊎_elim}
use mathlib.Core.List.{List, [], ◌∷◌, ◌++◌}
use native.Mathlib.Omega.{arith}
use borrow.Author.Tests.{not-true}
use Rattle.area.specs.Limits.{width, unreached}
use Rattle.area.specs.Tables.{cell}
use Rattle.area.specs.Lists.{◌∈◌}
use Rattle.area.proofs.MemberLaws.{in_left, in_right, in_either}
use Rattle.area.proofs.TestLaws.{look, both_true, and_true, or_cases, or_left, or_right}
use Rattle.sets.specs.Sets.{bit, union, without}
use Rattle.sets.proofs.SetLaws.{bit_lt, bit_union, bit_without, without_lt, member_some}
use Rattle.sets.proofs.MembersLaws.{Turn}
use Rattle.trees.specs.Turns.{entry, Relaxed, Offers, Best, Turned}
use Rattle.trees.proofs.Offering.{best_none, best_as, best_more}

-- q has offered its way to i
abbrev Done : (links : List ℕ) (β σ : ℕ) (xs : List ℕ) (i q : ℕ) → Type 0
Done links β σ xs i q = Offers links β σ i q × (q ∈ xs)

pub record Turning (m links : List ℕ) (β σ : ℕ) (d₀ h₀ d h : List ℕ) (offered : ℕ) (xs : List ℕ) : Type 0 where
  pub best : (i : ℕ) → i < width
      → Best (Done links β σ xs i) (λ q. entry d₀ q + cell width m i q)
      (entry d₀ i) (entry h₀ i) (entry d i) (entry h i)
  pub found : (i : ℕ) → i < width → (bit offered i ≡ true) ↔ ((q : ℕ) × Done links β σ xs i q)

pub turning_none : (m links : List ℕ) (β σ : ℕ) (d h : List ℕ) → Turning m links β σ d h d h 0 []
turning_none m links β σ d h = record {
  best = λ i l. best_none (λ q. entry d q + cell width m i q) (entry d i) (entry h i) (λ q o. absurd o.1);
  found = λ i l. ((λ b. absurd (member_some 0 i b refl)), (λ o. absurd o.1.1));
}

module _
    {m links : List ℕ} {β σ : ℕ} (all : (q : ℕ) → bit β q ≡ true → bit σ q ≡ true) {d₀ h₀ d h : List ℕ}
    {offered : ℕ} {xs : List ℕ} (t : Turning m links β σ d₀ h₀ d h offered xs) {q : ℕ} (turn : Turn β xs q) where
  -- nothing is offered to a settled router
  pub base : entry d q ≡ entry d₀ q
  base =
      ⊎_elim
      (λ e. e)
      (λ o. absurd (false≢true (sym o.1.0.2 ∙ all q turn.member)))
      (t.best q turn.inside).came

  still : (i k : ℕ) → Done links β σ xs i k → Done links β σ (xs ++ q ∷ []) i k
  still i k o = (o.0, in_left k xs (q ∷ []) o.1)

  was : (i k : ℕ) → Done links β σ (xs ++ q ∷ []) i k → Done links β σ xs i k ⊎ (k ≡ q)
  was i k o = ⊎_elim (λ b. inl (o.0, b)) (⊎_elim inr absurd) (in_either k xs (q ∷ []) o.1)

  module _ {ahead : ℕ} (is : ahead ≡ without width (entry links q) σ) where
    -- q offers its way to i exactly where i is one of these
    opens : (i : ℕ) → i < width → bit ahead i ≡ true → Done links β σ (xs ++ q ∷ []) i q
    opens i l b =
        let both = both_true (bit (entry links q) i) (not (bit σ i))
        (sym (bit_without width (entry links q) σ i l) ∙ ap (λ (x : ℕ). bit x i) (sym is) ∙ b) in
        ((turn.member, both.0, not-true (bit σ i) both.1), in_right q xs (q ∷ []) (inl refl))

    ahead_is : (i k : ℕ) → i < width → k ≡ q → Done links β σ (xs ++ q ∷ []) i k → bit ahead i ≡ true
    ahead_is i k l s o =
        ap (λ (x : ℕ). bit x i) is
        ∙ bit_without width (entry links q) σ i l
        ∙ and_true (bit (entry links q) i) (not (bit σ i))
        (ap (λ (x : ℕ). bit (entry links x) i) (sym s) ∙ o.0.1) (ap not o.0.2)

    -- its sums fit
    pub room :
        ((i k : ℕ) → Offers links β σ i k → entry d₀ k + cell width m i k ≤ unreached)
        → (i : ℕ)
        → bit ahead i ≡ true
        → entry d q + cell width m i q ≤ unreached
    room fit i b =
        let fits : ahead < 2 ^ width = rw is (without_lt width (entry links q) σ) in
        let o = opens i (bit_lt width ahead i fits b) b in
        omega (arith, base, fit i q o.0)

    pub turning_more :
        {d' h' : List ℕ} {offered' : ℕ}
        → offered' ≡ union width offered ahead
        → Relaxed m q ahead d h d' h'
        → Turning m links β σ d₀ h₀ d' h' offered' (xs ++ q ∷ [])
    turning_more {d'} {h'} {offered'} u x = record {
      best = λ i l. by_link i l (look (bit ahead i));
      found = λ i l. (shown i l, held i l);
    }
      where
        by_link : (i : ℕ) → i < width
            → (bit ahead i ≡ true) ⊎ (bit ahead i ≡ false)
            → Best (Done links β σ (xs ++ q ∷ []) i) (λ k. entry d₀ k + cell width m i k)
            (entry d₀ i) (entry h₀ i) (entry d' i) (entry h' i)
        by_link i l (inl b) =
            best_more (t.best i l) (Done links β σ (xs ++ q ∷ []) i) q (still i) (opens i l b) (was i)
            (rw base at (x.linked i b))
        by_link i l (inr b) =
            let same = x.others i b in
            rw (same.0, same.1)
            (best_as (Done links β σ (xs ++ q ∷ []) i) (λ k. entry d₀ k + cell width m i k) (t.best i l) (still i)
            (λ k o. ⊎_elim (λ w. w) (λ s. absurd (false≢true (sym b ∙ ahead_is i k l s o))) (was i k o))
            (λ k o. refl))

        shown : (i : ℕ) → i < width → bit offered' i ≡ true → (k : ℕ) × Done links β σ (xs ++ q ∷ []) i k
        shown i l b =
            ⊎_elim
            (λ o. let w = (t.found i l).0 o in (w.0, still i w.0 w.1))
            (λ o. (q, opens i l o))
            (or_cases (bit offered i) (bit ahead i)
            (sym (bit_union width offered ahead i l) ∙ ap (λ (y : ℕ). bit y i) (sym u) ∙ b))

        held : (i : ℕ) → i < width → (k : ℕ) × Done links β σ (xs ++ q ∷ []) i k → bit offered' i ≡ true
        held i l o =
            ap (λ (y : ℕ). bit y i) u
            ∙ bit_union width offered ahead i l
            ∙ ⊎_elim
            (λ w. or_left (bit offered i) (bit ahead i) ((t.found i l).1 (o.0, w)))
            (λ s. or_right (bit offered i) (bit ahead i) (ahead_is i o.0 l s o.1))
            (was i o.0 o.1)

-- when all members of β have come, all have offered
module _
    {m links : List ℕ} {β σ : ℕ} {d₀ h₀ d h : List ℕ} {offered : ℕ} {xs : List ℕ}
    (t : Turning m links β σ d₀ h₀ d h offered xs) (end : (q : ℕ) → bit β q ≡ true → q ∈ xs) where
  all_done : (i q : ℕ) → Offers links β σ i q → Done links β σ xs i q
  all_done i q o = (o, end q o.0)

  pub turned : Turned m links β σ d₀ h₀ d h
  turned i l =
      best_as (Offers links β σ i) (λ q. entry d₀ q + cell width m i q) (t.best i l)
      (λ q o. o.0) (all_done i) (λ q o. refl)

  pub all_found : (i : ℕ) → i < width → (bit offered i ≡ true) ↔ ((q : ℕ) × Offers links β σ i q)
  all_found i l = (
    (λ b. let o = (t.found i l).0 b in (o.0, o.1.0)),
    (λ o. (t.found i l).1 (o.0, all_done i o.0 o.1)),
  )
