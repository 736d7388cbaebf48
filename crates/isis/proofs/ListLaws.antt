-- Laws of the lists: those by which the code is proved.
--     neighbour-.., none-..            the refusals of an entry, and what is known of one that has none
--     refusal_none, refusal_fault, refusal_first, refusal_next
--                                      the first refusal of items, by the first of them
--     lowest_none, lowest_next         the lowest metric, likewise
--     length_start, length_next        where the lists stand
--     list_cut, list_whole, list_passed    the refusals of a list
--     first_list, first_cut, first_judged, next_place, next_inside, none_left, some_left
--                                      the lists as slices: what is left from list i on
use Prim.Native.Nat.{ℕ, suc, ◌+◌, ◌≤◌, ◌<◌, min}
use Rattle.std.specs.Prelude.{◌≡◌, true, false, ◌≢◌, ◌⊎◌, List, [], ◌∷◌, length, get_or, take, drop, ltb, Some, None}
use Rattle.std.specs.Prelude.{Ok, Err}
use Rattle.std.proofs.Math.Path.{refl}
use Rattle.std.proofs.Common.{sym, ap, ◌∙◌, inl, inr, length-drop, get_or-drop}
use Rattle.std.proofs.Math.Path.{ap₂}
use Rattle.std.proofs.lemmas.List.{drop-drop}
use native.Mathlib.Omega.{arith}
use borrow.Author.Tests.{lt-ltb, le-ltb, eq-eqb, ne_eqb}
use Rattle.area.specs.Bytes.{two}
use Rattle.area.specs.Refusals.{refusal_number, incomplete, self_link, bad_metric, unknown_identity}
use Rattle.area.proofs.RefusalLaws.{refusal_positive}
use Rattle.area.specs.Tests.{pick}
use Rattle.area.proofs.TestLaws.{then_some, then_none, then_both, look}
use Rattle.area.specs.declared.refusal.Refusal.{Refusal}
use Rattle.tlv.specs.declared.Neighbour.{Neighbour}
use Rattle.tlv.specs.Items.{Read, items}
use Rattle.isis.specs.Identities.{is_known, is_of, router_of}
use Rattle.isis.proofs.IdentityLaws.{not_known, known_of, of_router, of_other}
use Rattle.isis.specs.Lists.{neighbour_refusal, items_refusal, lowest_to}
use Rattle.isis.specs.Lists.{length_at, list_of, list_refusal}

-- ---- an entry in the list of router i
module _ (t : List ℕ) (i : ℕ) (x : Neighbour) where
  pub neighbour_unknown : router_of t x.identity ≡ None → unknown_identity ≡ neighbour_refusal t i x
  unfolding neighbour_refusal
  neighbour_unknown e = rw (not_known t x.identity e) refl

  module _ (j : ℕ) (found : router_of t x.identity ≡ Some j) where
    pub neighbour_self : j ≡ i → self_link ≡ neighbour_refusal t i x
    unfolding neighbour_refusal
    neighbour_self e = rw (known_of t x.identity j found, of_router t x.identity j found i e) refl

    module _ (f : j ≢ i) where
      pub neighbour_zero : x.metric ≡ 0 → bad_metric ≡ neighbour_refusal t i x
      unfolding neighbour_refusal
      neighbour_zero e =
          rw (known_of t x.identity j found, of_other t x.identity j found i f, eq-eqb x.metric 0 e) refl

      pub neighbour_passes : x.metric ≢ 0 → 0 ≡ neighbour_refusal t i x
      unfolding neighbour_refusal
      neighbour_passes g =
          rw (known_of t x.identity j found, of_other t x.identity j found i f, ne_eqb x.metric 0 g) refl

-- what `linked` answers
pub ruleset neighbour_laws = (neighbour_unknown, neighbour_self, neighbour_zero, neighbour_passes)

-- an entry that is not refused has a known identity, of another router, and a metric
pub record Passed (t : List ℕ) (i : ℕ) (x : Neighbour) : Type 0 where
  pub known : is_known t x.identity ≡ true
  pub other : is_of t x.identity i ≡ false
  pub some : x.metric ≢ 0

pub passed_of : (t : List ℕ) (i : ℕ) (x : Neighbour) → neighbour_refusal t i x ≡ 0 → Passed t i x
unfolding neighbour_refusal
passed_of t i x z = go (look (is_known t x.identity)) (look (is_of t x.identity i))
  where
    go : (is_known t x.identity ≡ true) ⊎ (is_known t x.identity ≡ false)
        → (is_of t x.identity i ≡ true) ⊎ (is_of t x.identity i ≡ false)
        → Passed t i x
    go (inr a) b = absurd (let x : unknown_identity ≡ 0 = rw a at z in omega arith)
    go (inl a) (inl b) = absurd (let x : self_link ≡ 0 = rw (a, b) at z in omega arith)
    go (inl a) (inr b) = record {
      known = a;
      other = b;
      some = λ e. let x : bad_metric ≡ 0 = rw (a, b, eq-eqb x.metric 0 e) at z in omega arith;
    }

-- ---- items
module _ (t : List ℕ) (i : ℕ) where
  pub refusal_none : items_refusal t i [] ≡ 0
  unfolding items_refusal
  refusal_none = refl

  -- whatever stands behind a fault
  pub refusal_fault : (k : Refusal) (rest : List Read) → items_refusal t i (Err k ∷ rest) ≡ refusal_number k
  unfolding items_refusal
  refusal_fault k rest =
      then_some (refusal_number k) (items_refusal t i rest)
      (λ z. let x : ⊥ = omega (arith, refusal_positive k, z) in x)

  module _ (x : Neighbour) (rest : List Read) where
    pub refusal_first : neighbour_refusal t i x ≢ 0 → items_refusal t i (Ok x ∷ rest) ≡ neighbour_refusal t i x
    unfolding items_refusal
    refusal_first f = then_some (neighbour_refusal t i x) (items_refusal t i rest) f

    pub refusal_next : neighbour_refusal t i x ≡ 0 → items_refusal t i (Ok x ∷ rest) ≡ items_refusal t i rest
    unfolding items_refusal
    refusal_next z = then_none (neighbour_refusal t i x) (items_refusal t i rest) z

    pub refusal_both :
        items_refusal t i (Ok x ∷ rest) ≡ 0
        → (neighbour_refusal t i x ≡ 0) × (items_refusal t i rest ≡ 0)
    unfolding items_refusal
    refusal_both z = then_both (neighbour_refusal t i x) (items_refusal t i rest) z

  -- items without a refusal have no fault
  pub no_fault : (k : Refusal) (rest : List Read) → items_refusal t i (Err k ∷ rest) ≡ 0 → ⊥
  no_fault k rest z = omega (arith, refusal_positive k, refusal_fault k rest, z)

module _ (t : List ℕ) (j v : ℕ) where
  pub lowest_none : lowest_to t j v [] ≡ v
  unfolding lowest_to
  lowest_none = refl

  pub lowest_next :
      (x : Neighbour) (rest : List Read)
      → lowest_to t j v (Ok x ∷ rest) ≡ lowest_to t j (pick (is_of t x.identity j) (min v x.metric) v) rest
  unfolding lowest_to
  lowest_next x rest = refl

-- ---- where the lists stand
module _ (d : List ℕ) where
  pub length_start : 0 ≡ length_at d 0
  unfolding length_at
  length_start = refl

  pub length_next : (i p : ℕ) → p ≡ length_at d i → p + 2 + two d p ≡ length_at d (i + 1)
  unfolding length_at
  length_next i p e = rw e (ap (length_at d) (let next : suc i ≡ i + 1 = omega arith in next))

module _ (t d : List ℕ) (i p : ℕ) (is : p ≡ length_at d i) where
  pub list_cut : length d < p + 2 + two d p → list_refusal t d i ≡ incomplete
  unfolding list_refusal length_at
  list_cut h = rw (← is, lt-ltb (length d) (p + 2 + two d p) h) refl

  pub list_whole :
      p + 2 + two d p ≤ length d
      → list_refusal t d i ≡ items_refusal t i (items (take (two d p) (drop (p + 2) d)))
  unfolding list_refusal length_at
  list_whole h = rw (← is, le-ltb (length d) (p + 2 + two d p) h) refl

-- ---- the lists as slices
module _ (d : List ℕ) where
  -- r is what is left of the lists from list i on
  module _ (i : ℕ) (r : List ℕ) (place : r ≡ drop (length_at d i) d) (inside : length_at d i ≤ length d) where
    left : length r + length_at d i ≡ length d
    left = omega (arith, ap length place, length-drop (length_at d i) d, inside)

    byte_of : (j q : ℕ) → q ≡ length_at d i + j → get_or r j 0 ≡ get_or d q 0
    byte_of j q at =
        ap (λ (x : List ℕ). get_or x j 0) place
        ∙ get_or-drop (length_at d i) d j 0
        ∙ ap (λ (x : ℕ). get_or d x 0) (sym at)

    size : two r 0 ≡ two d (length_at d i)
    size = omega (
      arith,
      byte_of 0 (length_at d i) (omega arith),
      byte_of 1 (length_at d i + 1) (omega arith),
    )

    pub first_list : take (two r 0) (drop 2 r) ≡ list_of d i
    first_list =
        ap₂ (λ (k : ℕ) (x : List ℕ). take k x) size
        (ap (drop 2) place ∙ drop-drop 2 (length_at d i) d)

    pub next_place : drop (2 + two r 0) r ≡ drop (length_at d (i + 1)) d
    next_place =
        ap (drop (2 + two r 0)) place
        ∙ drop-drop (2 + two r 0) (length_at d i) d
        ∙ ap (λ (k : ℕ). drop k d) (omega (arith, size, length_next d i (length_at d i) refl))

    pub next_inside : 2 + two r 0 ≤ length r → length_at d (i + 1) ≤ length d
    next_inside h = omega (arith, h, left, size, length_next d i (length_at d i) refl)

    pub none_left : length r ≡ 0 → length_at d i ≡ length d
    none_left e = omega (arith, e, left)

    pub some_left : 0 < length r → length_at d i < length d
    some_left h = omega (arith, h, left)

    module _ (t : List ℕ) where
      pub first_cut : length r < 2 + two r 0 → list_refusal t d i ≡ incomplete
      first_cut h = list_cut t d i (length_at d i) refl (omega (arith, h, left, size))

      -- v is the refusal of `part`, which is the first of the lists that are left
      pub first_judged :
          2 + two r 0 ≤ length r
          → (part : List ℕ)
          → part ≡ take (two r 0) (drop 2 r)
          → (v : ℕ)
          → v ≡ items_refusal t i (items part)
          → v ≡ list_refusal t d i
      first_judged h part is v e =
          e
          ∙ ap (λ (x : List ℕ). items_refusal t i (items x)) (is ∙ first_list)
          ∙ sym (list_whole t d i (length_at d i) refl (omega (arith, h, left, size)))

-- a list that is not refused has entries that are not
pub list_passed : (t d : List ℕ) (i : ℕ) → list_refusal t d i ≡ 0 → items_refusal t i (items (list_of d i)) ≡ 0
unfolding list_refusal
list_passed t d i z = go (look (ltb (length d) (length_at d (suc i))))
  where
    go : (ltb (length d) (length_at d (suc i)) ≡ true) ⊎ (ltb (length d) (length_at d (suc i)) ≡ false)
        → items_refusal t i (items (list_of d i)) ≡ 0
    go (inl a) = absurd (let x : incomplete ≡ 0 = rw a at z in omega arith)
    go (inr a) = rw a at z
