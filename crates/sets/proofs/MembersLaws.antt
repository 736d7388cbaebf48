-- Laws of the list of a set's members, and of a loop over `members`.
--     members_in, in_members       who stands in the list
--     members_none, members_of_none        when it is empty
--     members_from     when it begins with a member, and goes on with those of another set
--     members_rise     the lowest comes first
--     Turn, loop_turn      what a turn of a loop knows of the member that comes
--     loop_more            what holds of those that have come, where one more comes
--     loop_come, loop_end  those that have come are members, and at the end all members have come
use Rattle.std.specs.Prelude.{ℕ, zero, suc, ◌^◌, ◌<◌, ◌≡◌, true, false, ◌≢◌, ◌⊎◌, List, [], ◌∷◌, ◌++◌}
use Rattle.std.proofs.Math.Path.{refl}
use Rattle.std.proofs.Common.{sym, ap, subst, ◌∙◌, inl, inr, ⊎_elim, not-suc-le-zero, arith}
use Rattle.std.proofs.Math.Decide.{ℕ_discrete}
use Rattle.std.proofs.lemmas.List.{append-nil}
use Rattle.std.specs.Iterator.{Yields, YieldsFirst}
use Rattle.area.specs.Limits.{width}
use Rattle.area.specs.Tests.{pick}
use Rattle.area.specs.Lists.{◌∈◌}
use Rattle.area.proofs.TestLaws.{look}
use Rattle.area.proofs.MemberLaws.{in_left, in_right, in_either}
use Rattle.sets.specs.declared.visiting.Members.{Members}
use Rattle.sets.specs.Sets.{bit}
use Rattle.sets.specs.Members.{members}
use Rattle.sets.proofs.SetLaws.{bit_zero, bit_lt}

pub members_none : (w s : ℕ) → ((k : ℕ) → k < w → bit s k ≡ false) → members w s ≡ []
unfolding members
members_none zero s f = refl
members_none (suc w) s f = rw (members_none w s (λ k h. f k (omega arith)), f w (omega arith)) refl

pub members_of_none : (w : ℕ) → members w 0 ≡ []
members_of_none w = members_none w 0 (λ k h. bit_zero k)

module _ (s : ℕ) where
  -- who stands in it
  pub members_in : (w k : ℕ) → k < w → bit s k ≡ true → k ∈ members w s
  unfolding members
  members_in zero k h e = absurd (not-suc-le-zero h)
  members_in (suc w) k h e = elim (ℕ_discrete k w) [
    | yes p ↦ in_right k (members w s) (pick (bit s w) (w ∷ []) []) (rw (ap (bit s) (sym p) ∙ e) (inl p))
    | no f ↦ in_left k (members w s) (pick (bit s w) (w ∷ []) []) (members_in w k (omega arith) e)
  ]

  pub in_members : (w k : ℕ) → k ∈ members w s → (k < w) × (bit s k ≡ true)
  unfolding members
  in_members zero k m = absurd m
  in_members (suc w) k m = ⊎_elim
      (λ l. let r = in_members w k l in (omega (arith, r.0), r.1))
      (λ l. by_last (look (bit s w)) l)
      (in_either k (members w s) (pick (bit s w) (w ∷ []) []) m)
    where
      by_last : (bit s w ≡ true) ⊎ (bit s w ≡ false) → k ∈ pick (bit s w) (w ∷ []) [] → (k < suc w) × (bit s k ≡ true)
      by_last (inl e) l = ⊎_elim (λ p. (omega (arith, p), ap (bit s) p ∙ e)) absurd (rw e at l)
      by_last (inr e) l = absurd (rw e at l)

  -- its first is q, where none is below q, and t has the others
  pub members_from :
      (w t q : ℕ)
      → q < w
      → ((k : ℕ) → k < q → bit s k ≡ false)
      → bit s q ≡ true
      → bit t q ≡ false
      → ((k : ℕ) → k < w → k ≢ q → bit t k ≡ bit s k)
      → members w s ≡ q ∷ members w t
  unfolding members
  members_from zero t q h low here gone same = absurd (not-suc-le-zero h)
  members_from (suc w) t q h low here gone same = elim (ℕ_discrete q w) [
    | yes p ↦
        let none_of = members_none w s (λ k l. low k (omega arith)) in
        let none_left = members_none w t (λ k l. same k (omega arith) (λ e. omega arith) ∙ low k (omega arith)) in
        rw (none_of, none_left, ap (bit s) (sym p) ∙ here, ap (bit t) (sym p) ∙ gone, p) refl
    | no f ↦
        let first = members_from w t q (omega arith) low here gone (λ k l. same k (omega arith)) in
        rw (first, same w (omega arith) (λ e. f (sym e))) refl
  ]

-- ---- the lowest comes first
abbrev pub Rising : (l : List ℕ) → Type 0
Rising [] = Unit {0}
Rising (x ∷ l) = ((y : ℕ) → y ∈ l → x < y) × Rising l

rising_more : (l : List ℕ) (n : ℕ) → Rising l → ((y : ℕ) → y ∈ l → y < n) → Rising (l ++ n ∷ [])
rising_more [] n r f = ((λ y m. absurd m), tt)
rising_more (x ∷ l) n r f = (
  (λ y m. ⊎_elim (r.0 y) (⊎_elim (λ e. omega (arith, e, f x (inl refl))) absurd) (in_either y l (n ∷ []) m)),
  rising_more l n r.1 (λ y m. f y (inr m)),
)

pub members_rise : (w s : ℕ) → Rising (members w s)
unfolding members
members_rise zero s = tt
members_rise (suc w) s = ⊎_elim
    (λ e. rw e (rising_more (members w s) w (members_rise w s) (λ y m. (in_members s w y m).0)))
    (λ e. rw e (subst Rising (sym (append-nil (members w s))) (members_rise w s)))
    (look (bit s w))

-- those before k are below it
rising_before : (xs more : List ℕ) (k : ℕ) → Rising (xs ++ k ∷ more) → (j : ℕ) → j ∈ xs → j < k
rising_before [] more k r j m = absurd m
rising_before (x ∷ xs) more k r j (inl e) = rw e (r.0 k (in_right k xs (k ∷ more) (inl refl)))
rising_before (x ∷ xs) more k r j (inr m) = rising_before xs more k r.1 j m

-- ---- a loop over `members`
so_far :
    (xs : List ℕ) (it now : Members)
    → Yields (YieldsFirst (λ (m : Members). members width m.left)) it xs now
    → members width it.left ≡ xs ++ members width now.left
so_far [] it now e = ap (λ (m : Members). members width m.left) e
so_far (x ∷ xs) it now c = c.1 ∙ ap (λ (l : List ℕ). x ∷ l) (so_far xs c.0 now c.2)

-- what holds of each that has come, where k comes next
pub loop_more :
    {P : ℕ → Type 0} (Q : ℕ → Type 0) (xs : List ℕ) (k : ℕ)
    → ((j : ℕ) → j ∈ xs → P j)
    → ((j : ℕ) → j ∈ xs → P j → Q j)
    → Q k
    → (j : ℕ) → j ∈ (xs ++ k ∷ []) → Q j
loop_more Q xs k old keep new j m =
    ⊎_elim (λ o. keep j o (old j o)) (⊎_elim (λ e. subst Q (sym e) new) absurd) (in_either j xs (k ∷ []) m)

-- k comes after xs
pub record Turn (s : ℕ) (xs : List ℕ) (k : ℕ) : Type 0 where
  pub inside : k < width
  pub member : bit s k ≡ true
  pub last : (j : ℕ) → j ∈ xs → j < k

-- xs have come from the members of s, and the iterator stands at `now`
module _
    (xs : List ℕ) (it now : Members) (s : ℕ) (start : it.left ≡ s)
    (calls : Yields (YieldsFirst (λ (m : Members). members width m.left)) it xs now) where
  all : members width s ≡ xs ++ members width now.left
  all = ap (members width) (sym start) ∙ so_far xs it now calls

  pub loop_turn : (k left : ℕ) → members width now.left ≡ k ∷ members width left → Turn s xs k
  loop_turn k left e =
      let split = all ∙ ap (λ (l : List ℕ). xs ++ l) e in
      let is = in_members s width k (rw (sym split) at (in_right k xs (k ∷ members width left) (inl refl))) in
      record {
        inside = is.0;
        member = is.1;
        last = rising_before xs (members width left) k (rw split at (members_rise width s));
      }

  pub loop_come : (k : ℕ) → k ∈ xs → bit s k ≡ true
  loop_come k m = (in_members s width k (rw (sym all) at (in_left k xs (members width now.left) m))).1

  pub loop_end : members width now.left ≡ [] → s < 2 ^ width → (k : ℕ) → bit s k ≡ true → k ∈ xs
  loop_end e fits k b =
      let split = all ∙ ap (λ (l : List ℕ). xs ++ l) e ∙ append-nil xs in
      rw split at (members_in s width k (bit_lt width s k fits b) b)
