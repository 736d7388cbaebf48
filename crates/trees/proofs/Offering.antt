-- Offers to one router, one after another (`Best`): what is kept is the least of all, with the next hops that meet it.
--     best_none    no offer changes nothing
--     best_more    one offer more
--     best_as      the same offers, said in another way
use Prim.Native.Nat.{ℕ, ◌<◌, ◌≤◌}
use mathlib.Core.Path.{◌≡◌, refl, sym, ◌∙◌}
use mathlib.Core.Bool.{true, ◌||◌}
use mathlib.Core.Logic.{◌⊎◌, inl, inr, ⊎_elim}
use native.Mathlib.Omega.{arith}
use borrow.Author.Tests.{eq-eqb, eqb-true}
use lib.Dec.{eqb}
use Rattle.area.specs.Limits.{width}
use Rattle.area.proofs.TestLaws.{or_cases, or_left, or_right}
use Rattle.sets.specs.Sets.{bit, added, union}
use Rattle.sets.proofs.SetLaws.{bit_zero, bit_added, bit_union}
use Rattle.trees.specs.Turns.{Offered, nearer, equal, farther, Best}

pub best_none : {Q : ℕ → Type 0} (f : ℕ → ℕ) (x h : ℕ) → ((q : ℕ) → Q q → ⊥) → Best Q f x h x h
best_none f x h none = record {
  low = omega arith;
  met = λ q o. absurd (none q o);
  came = inl refl;
  hops = λ k l. ((λ b. inl (b, refl)), (λ t. ⊎_elim (λ o. o.0) (λ o. absurd (none k o.0)) t));
}

pub best_as :
    {Q : ℕ → Type 0} {f : ℕ → ℕ} {x h x' h' : ℕ} (R : ℕ → Type 0) (g : ℕ → ℕ)
    → Best Q f x h x' h'
    → ((q : ℕ) → Q q → R q)
    → ((q : ℕ) → R q → Q q)
    → ((q : ℕ) → Q q → f q ≡ g q)
    → Best R g x h x' h'
best_as {Q} {f} {x} {h} {x'} {h'} R g b to from same = record {
  low = b.low;
  met = λ q r. omega (arith, b.met q (from q r), same q (from q r));
  came = ⊎_elim (λ e. inl e) (λ o. inr (o.0, to o.0 o.1, o.2 ∙ same o.0 o.1)) b.came;
  hops = λ k l. (
    (λ t. ⊎_elim inl (λ o. inr (to k o.0, o.1 ∙ same k o.0)) ((b.hops k l).0 t)),
    (λ t. (b.hops k l).1 (⊎_elim inl (λ o. inr (from k o.0, o.1 ∙ sym (same k (from k o.0)))) t)),
  );
}

-- the set of one next hop
module _ (q : ℕ) where
  only : (k : ℕ) → k < width → bit (added width 0 q) k ≡ true → k ≡ q
  only k l b = eqb-true k q (sym (bit_added width 0 q k l ∙ rw (bit_zero k) refl) ∙ b)

  itself : (k : ℕ) → k < width → k ≡ q → bit (added width 0 q) k ≡ true
  itself k l e = bit_added width 0 q k l ∙ or_right (bit 0 k) (eqb k q) (eq-eqb k q e)

module _
    {Q : ℕ → Type 0} {f : ℕ → ℕ} {x h x' h' : ℕ} (b : Best Q f x h x' h')
    (R : ℕ → Type 0) (q : ℕ) (to : (k : ℕ) → Q k → R k) (new : R q) (from : (k : ℕ) → R k → Q k ⊎ (k ≡ q)) where
  -- what is met by an offer, or by what was there
  abbrev Met : (y k : ℕ) → Type 0
  Met y k = ((bit h k ≡ true) × (y ≡ x)) ⊎ (R k × (y ≡ f k))

  least : (y : ℕ) → y ≤ x' → y ≤ f q → (k : ℕ) → R k → y ≤ f k
  least y low one k r =
      ⊎_elim (λ o. omega (arith, b.met k o)) (λ (e : k ≡ q). rw e (omega arith)) (from k r)

  -- the offer is nearer than all before it: q is the one next hop
  taken : {h'' : ℕ} → f q < x' → h'' ≡ added width 0 q → Best R f x h (f q) h''
  taken {h''} l e = record {
    low = omega (arith, b.low);
    met = least (f q) (omega arith) (omega arith);
    came = inr (q, new, refl);
    hops = λ k w. (
      (λ t. let is = only q k w (rw e at t) in inr (rw is (new, refl))),
      (λ t. rw e (itself q k w (sole k t))),
    );
  }
    where
      sole : (k : ℕ) → Met (f q) k → k ≡ q
      sole k (inl o) = absurd (let z : ⊥ = omega (arith, o.1, b.low) in z)
      sole k (inr o) =
          ⊎_elim (λ r. absurd (let z : ⊥ = omega (arith, b.met k r, o.1) in z)) (λ s. s) (from k o.0)

  -- it is as near: q joins
  joined : {h'' : ℕ} → f q ≡ x' → h'' ≡ union width h' (added width 0 q) → Best R f x h x' h''
  joined {h''} l e = record {
    low = b.low;
    met = least x' (omega arith) (omega arith);
    came = ⊎_elim inl (λ o. inr (o.0, to o.0 o.1, o.2)) b.came;
    hops = λ k w. (
      (λ t. ⊎_elim (was k w) (λ s. let is = only q k w s in inr (rw is (new, sym l)))
          (or_cases (bit h' k) (bit (added width 0 q) k)
          (sym (bit_union width h' (added width 0 q) k w) ∙ (rw e at t)))),
      (λ t. rw e (bit_union width h' (added width 0 q) k w ∙ either k w t)),
    );
  }
    where
      was : (k : ℕ) → k < width → bit h' k ≡ true → Met x' k
      was k w s = ⊎_elim inl (λ o. inr (to k o.0, o.1)) ((b.hops k w).0 s)

      either : (k : ℕ) → k < width → Met x' k → (bit h' k || bit (added width 0 q) k) ≡ true
      either k w (inl o) =
          or_left (bit h' k) (bit (added width 0 q) k) ((b.hops k w).1 (inl o))
      either k w (inr o) =
          ⊎_elim
          (λ r. or_left (bit h' k) (bit (added width 0 q) k) ((b.hops k w).1 (inr (r, o.1))))
          (λ s. or_right (bit h' k) (bit (added width 0 q) k) (itself q k w s))
          (from k o.0)

  -- it is farther
  passed : x' < f q → Best R f x h x' h'
  passed l = record {
    low = b.low;
    met = least x' (omega arith) (omega arith);
    came = ⊎_elim inl (λ o. inr (o.0, to o.0 o.1, o.2)) b.came;
    hops = λ k w. (
      (λ t. ⊎_elim inl (λ o. inr (to k o.0, o.1)) ((b.hops k w).0 t)),
      (λ t. (b.hops k w).1 (⊎_elim inl (λ o. inr (still k o, o.1)) t)),
    );
  }
    where
      still : (k : ℕ) → R k × (x' ≡ f k) → Q k
      still k o =
          ⊎_elim (λ r. r)
          (λ (s : k ≡ q). absurd (let y = rw s at o.1 in let z : ⊥ = omega arith in z))
          (from k o.0)

  pub best_more : {x'' h'' : ℕ} → Offered (f q) (added width 0 q) x' h' x'' h'' → Best R f x h x'' h''
  best_more (nearer l e w) = rw e (taken l w)
  best_more (equal l e w) = rw e (joined l w)
  best_more (farther l e w) = rw (e, w) (passed l)
