-- Laws of visiting the members of a set one after another, the lowest first: `lowest` finds the member, and `beyond`
-- leaves it out.
--     trailing_is      the lowest member is as many as there are zeros below the lowest digit 1
--     beyond_removed   without its one lowest member, a set is that set with this member removed
--     Visited          some members were visited, and what holds of them; the others are left
--     visit_start, visit_more, visit_next, visit_end       a loop that visits them
--     visit_member, visit_left, visit_gone, visit_less     the next one is a member; those that are left then, and the
--                      others; they are fewer
--     visit_first      the list of the members begins with the next one, and goes on with those that are left then
use Rattle.std.specs.Prelude.{ℕ, zero, suc, ◌-◌, ◌/◌, ◌%◌, ◌^◌, ◌≤◌, ◌<◌, ◌≡◌, true, false, ◌&&◌, ◌≢◌, ◌⊎◌, ◌∷◌, eqb}
use Rattle.std.proofs.Math.Path.{refl}
use Rattle.std.proofs.Common.{sym, ap, subst, ◌∙◌, inl, inr, ⊎_elim, not-suc-le-zero}
use Rattle.std.proofs.Common.{le_of_suc-le-suc, arith, le-leb, eq-eqb, ne_eqb}
use Rattle.std.proofs.Math.Bool.{not}
use Rattle.std.proofs.lemmas.Bool.{false≢true, lt-leb}
use Rattle.std.proofs.Math.Decide.{dec_lt, ℕ_discrete}
use Rattle.std.proofs.lemmas.Nat.{and_le_r, trailing_le}
use Rattle.std.specs.Int.Count.{count_trailing_zeros, under}
use Rattle.std.proofs.Math.Dec.{leb}
use Rattle.area.specs.Tests.{lowest}
use Rattle.area.proofs.TestLaws.{look}
use Rattle.area.proofs.LowestLaws.{lowest_passes, lowest_below, lowest_first_lem, lowest_none}
use Rattle.sets.specs.Sets.{num, bit, removed}
use Rattle.sets.proofs.SetLaws.{bit_zero, bit_lt, set_of_same, no_members, removed_lt, removed_other}
use Rattle.sets.proofs.SetLaws.{removed_self, removed_still}
use Rattle.sets.specs.Counts.{size}
use Rattle.sets.proofs.CountLaws.{size_is, total_term, total_full}
use Rattle.sets.specs.Members.{members}
use Rattle.sets.proofs.MembersLaws.{members_from}
use Rattle.sets.specs.Four.{beyond}
use Rattle.sets.proofs.FourLaws.{bit_half, bit_last, and_beyond}

-- ---- the zeros below the lowest digit 1
-- those of s by its last digit d, and by the t that half of s has
zeros_below :
    (s t d : ℕ)
    → s % 2 ≡ d
    → ((j : ℕ) → j < t → bit (s / 2) j ≡ false)
    → (j : ℕ)
    → j < under d t
    → bit s j ≡ false
zeros_below s t zero e half zero l = bit_last s ∙ rw e refl
zeros_below s t zero e half (suc j) l = bit_half s j ∙ half j (le_of_suc-le-suc l)
zeros_below s t (suc d) e half j l = absurd (not-suc-le-zero l)

trailing_below : (w s j : ℕ) → j < count_trailing_zeros w s → bit s j ≡ false
unfolding count_trailing_zeros
trailing_below zero s j h = absurd (not-suc-le-zero h)
trailing_below (suc w) s j h =
    zeros_below s (count_trailing_zeros w (s / 2)) (s % 2) refl (trailing_below w (s / 2)) j h

-- the digit above them
one_above :
    (s w t d : ℕ)
    → s % 2 ≡ d
    → (t < w → bit (s / 2) t ≡ true)
    → under d t < suc w
    → bit s (under d t) ≡ true
one_above s w t zero e half l = bit_half s t ∙ half (le_of_suc-le-suc l)
one_above s w t (suc d) e half l = bit_last s ∙ eq-eqb (s % 2) 1 (omega arith)

trailing_member : (w s : ℕ) → count_trailing_zeros w s < w → bit s (count_trailing_zeros w s) ≡ true
unfolding count_trailing_zeros
trailing_member zero s h = absurd (not-suc-le-zero h)
trailing_member (suc w) s h =
    one_above s w (count_trailing_zeros w (s / 2)) (s % 2) refl (trailing_member w (s / 2)) h

pub trailing_is : (w s : ℕ) → count_trailing_zeros w s ≡ lowest w (bit s)
trailing_is w s = elim (dec_lt (count_trailing_zeros w s) w) [
  | yes h ↦ lowest_first_lem (bit s) w (count_trailing_zeros w s) h (trailing_below w s) (trailing_member w s h)
  | no f ↦
      let all : count_trailing_zeros w s ≡ w = omega (arith, trailing_le w s) in
      all ∙ lowest_none (bit s) w (λ j l. trailing_below w s j (omega arith))
]

-- ---- without the lowest member
module _ (w s : ℕ) where
  none_below : (k : ℕ) → k ≤ lowest w (bit s) → size k s ≡ 0
  none_below k h =
      omega (arith, size_is k s, total_full 0 (λ j. num (bit s j)) k (λ j l. none j (omega arith)))
    where
      none : (j : ℕ) → j < lowest w (bit s) → num (bit s j) ≡ 0
      none j l = ap num (lowest_below (bit s) w j l)

  some_below : (q k : ℕ) → q < k → bit s q ≡ true → 1 ≤ size k s
  some_below q k h e = omega (arith, size_is k s, total_term k (λ j. num (bit s j)) q h, ap num e)

  pub beyond_removed : lowest w (bit s) < w → beyond w 1 s ≡ removed w s (lowest w (bit s))
  unfolding beyond removed
  beyond_removed some =
      let q = lowest w (bit s) in
      set_of_same w (λ k. bit s k && leb 1 (size k s)) (λ k. bit s k && not (eqb k q))
      (λ k h. by_place k (dec_lt k q) (dec_lt q k))
    where
      by_place :
          (k : ℕ)
          → Dec (k < lowest w (bit s))
          → Dec (lowest w (bit s) < k)
          → (bit s k && leb 1 (size k s)) ≡ (bit s k && not (eqb k (lowest w (bit s))))
      by_place k (yes l) d = rw (lowest_below (bit s) w k l) refl
      by_place k (no f) (yes l) =
          rw (le-leb 1 (size k s) (some_below (lowest w (bit s)) k l (lowest_passes (bit s) w some)))
          (rw (ne_eqb k (lowest w (bit s)) (λ e. omega arith)) refl)
      by_place k (no f) (no g) =
          rw (lt-leb 1 (size k s) (omega (arith, none_below k (omega arith))))
          (rw (eq-eqb k (lowest w (bit s)) (omega arith)) refl)

-- ---- a loop over the members
-- The members of s are visited; `left` are those that are still to come, and P holds of the others.
pub record Visited (w s left : ℕ) (P : ℕ → Type 0) : Type 0 where
  pub fits : left < 2 ^ w
  pub part : (k : ℕ) → bit left k ≡ true → bit s k ≡ true
  pub done : (k : ℕ) → bit s k ≡ true → bit left k ≡ false → P k

pub visit_start : (w s : ℕ) (P : ℕ → Type 0) → s < 2 ^ w → Visited w s s P
visit_start w s P h = record { fits = h; part = λ k e. e; done = λ k e f. absurd (false≢true (sym f ∙ e)) }

pub visit_end : {w s left : ℕ} {P : ℕ → Type 0} → Visited w s left P → left ≡ 0 → (k : ℕ) → bit s k ≡ true → P k
visit_end {left} v z k e = v.done k e (ap (λ (x : ℕ). bit x k) z ∙ bit_zero k)

module _ (w left q : ℕ) (fits : left < 2 ^ w) (some : left ≢ 0) (is : q ≡ lowest w (bit left)) where
  inside : q < w
  inside = elim (dec_lt q w) [
    | yes h ↦ h
    | no f ↦ absurd (some (no_members left (λ k t. false≢true (sym (none (omega arith) k t) ∙ t))))
  ]
    where
      none : w ≤ q → (k : ℕ) → bit left k ≡ true → bit left k ≡ false
      none h k t = lowest_below (bit left) w k (omega (arith, bit_lt w left k fits t))

  -- the router to be visited is a member
  pub visit_member : (q < w) × (bit left q ≡ true)
  visit_member = (inside, ap (bit left) is ∙ lowest_passes (bit left) w (omega (arith, inside)))

  after : beyond w 1 left ≡ removed w left q
  after = beyond_removed w left (omega (arith, inside)) ∙ ap (removed w left) (sym is)

  -- those that are left then, and the others
  module _ (r : ℕ) (e : r ≡ beyond w 1 left) (k : ℕ) where
    same : bit r k ≡ bit (removed w left q) k
    same = ap (λ (x : ℕ). bit x k) (e ∙ after)

    pub visit_left : bit r k ≡ true → (bit left k ≡ true) × (k ≢ q)
    visit_left b =
        let t = sym same ∙ b in (
          removed_still w left q k t,
          λ p. false≢true (sym (removed_self w left q inside) ∙ ap (bit (removed w left q)) (sym p) ∙ t),
        )

    pub visit_gone : bit r k ≡ false → (bit left k ≡ false) ⊎ (k ≡ q)
    visit_gone b = elim (ℕ_discrete k q) [
      | yes p ↦ inr p
      | no g ↦
          inl (⊎_elim
          (λ t. sym (removed_other w left q k (bit_lt w left k fits t) g) ∙ (sym same ∙ b))
          (λ t. t)
          (look (bit left k)))
    ]

-- the member, and those that are left then, make up the list
pub visit_first :
    (w left q r : ℕ)
    → left < 2 ^ w
    → left ≢ 0
    → q ≡ lowest w (bit left)
    → r ≡ beyond w 1 left
    → members w left ≡ q ∷ members w r
visit_first w left q r fits some is e =
    let h = inside w left q fits some is in
    let r_is = e ∙ after w left q fits some is in
    rw r_is
    (members_from left w (removed w left q) q h
    (λ k l. lowest_below (bit left) w k (omega arith)) (visit_member w left q fits some is).1
    (removed_self w left q h) (λ k l f. removed_other w left q k l f))

-- then fewer are left
pub visit_less : (w left r : ℕ) → left < 2 ^ w → left ≢ 0 → r ≡ beyond w 1 left → r < left
visit_less w left r fits some e = omega (arith, and_beyond w left fits, and_le_r left (left - 1))

-- one is visited: Q holds of it, and of those before
pub visit_more :
    {w s left : ℕ} {P : ℕ → Type 0} (Q : ℕ → Type 0) (q r : ℕ)
    → Visited w s left P
    → left ≢ 0
    → q ≡ lowest w (bit left)
    → r ≡ beyond w 1 left
    → ((k : ℕ) → k ≢ q → P k → Q k)
    → Q q
    → Visited w s r Q
visit_more {w} {s} {left} {P} Q q r v some is e keep new = record {
  fits = rw (e ∙ after w left q v.fits some is) (removed_lt w left q);
  part = λ k b. v.part k (visit_left w left q v.fits some is r e k b).0;
  done = λ k b f. elim (ℕ_discrete k q) [
    | yes p ↦ subst Q (sym p) new
    | no g ↦
        keep k g (v.done k b
        (⊎_elim (λ t. t) (λ p. absurd (g p)) (visit_gone w left q v.fits some is r e k f)))
  ];
}

-- the same, where what holds of a member does not depend on those visited later
pub visit_next :
    {w s left : ℕ} {P : ℕ → Type 0} (Q : ℕ → Type 0) (q r : ℕ)
    → Visited w s left P
    → left ≢ 0
    → q ≡ lowest w (bit left)
    → r ≡ beyond w 1 left
    → ((k : ℕ) → P k → Q k)
    → Q q
    → Visited w s r Q
visit_next Q q r v some is e keep new = visit_more Q q r v some is e (λ k f. keep k) new
