-- Laws of items: those by which the code is proved, and those for a loop over the items of a list.
--     item_end, item_short, item_past, item_long, item_entry
--                                          the item at a place, by what stands there
--     item_past_head, item_long_head, item_entry_head
--                                          the same where its first eleven bytes are split off, as the code returns it
--     next_inside                          an entry ends behind its place, inside its list
--     items_end, items_fault, items_entry
--                                          the items from a place on, by what stands there
--     same_identity                        two identities are equal as numbers exactly if their seven bytes are
-- There are enough items: each entry takes a place further, so `items_from` with as many as there are bytes left gives
-- the same as with more (`enough`).
use Rattle.std.specs.Prelude.{ℕ, zero, suc, ◌+◌, ◌-◌, ◌*◌, ◌≤◌, ◌<◌, ◌≡◌, ◌↔◌, List, [], ◌∷◌, length, get_or, take}
use Rattle.std.specs.Prelude.{drop}
use Rattle.std.specs.Prelude.{Some, None, Ok, Err}
use Rattle.std.proofs.Math.Path.{refl}
use Rattle.std.proofs.Common.{sym, ap, ◌∙◌, subst, ⊎_elim, not-suc-le-zero, eq-or-lt_of_le, le_of_suc-le-suc, arith}
use Rattle.std.proofs.lemmas.List.{length-take, length-drop, get_or-take, get_or-drop}
use Rattle.std.proofs.Math.Decide.{dec_lt, dec_le}
use borrow.Author.Tests.{le-leb, lt-leb, lt-ltb, le-ltb}
use Rattle.area.specs.Bytes.{three}
use Rattle.area.proofs.ByteLaws.{byte_missing, byte_same}
use Rattle.area.specs.declared.refusal.Refusal.{Refusal}
use Rattle.area.specs.declared.refusal.Refusal.TheVariants.{PastList, LongSubTlvs}
use Rattle.tlv.specs.declared.Neighbour.{Neighbour}
use Rattle.tlv.specs.Items.{Item, Read, seven, sub_tlvs, end_of, item_at}
use Rattle.tlv.specs.Items.{followed, items_from, items_at}

-- ---- the code's returns
module _ (l : List ℕ) (p : ℕ) where
  pub item_end : length l ≤ p → Ok None ≡ item_at l p
  unfolding item_at
  item_end h = rw (le-leb (length l) p h) refl

  module _ (b : p < length l) where
    runs_past : length l < end_of l p → Err PastList ≡ item_at l p
    unfolding item_at
    runs_past s = rw (lt-leb (length l) p b, lt-ltb (length l) (end_of l p) s) refl

    pub item_short : length l - p < 11 → Err PastList ≡ item_at l p
    item_short s = runs_past (omega (arith, byte_missing l (p + 10) (omega arith)))

    module _ (k : ℕ) (e : k ≡ sub_tlvs l p) where
      pub item_past : length l - p < 11 + k → Err PastList ≡ item_at l p
      item_past s = runs_past (omega arith)

      module _ (s : 11 + k ≤ length l - p) where
        fits : end_of l p ≤ length l
        fits = omega arith

        pub item_long : 244 < k → Err LongSubTlvs ≡ item_at l p
        unfolding item_at
        item_long m =
            rw (lt-leb (length l) p b, le-ltb (length l) (end_of l p) fits, lt-ltb 244 (sub_tlvs l p) (omega arith))
            refl

        pub item_entry :
            k ≤ 244
            → (i m : ℕ)
            → i ≡ seven l p
            → m ≡ three l (p + 7)
            → Ok (Some (record { identity = i; metric = m; next = p + 11 + k })) ≡ item_at l p
        unfolding item_at
        item_entry m i v f g =
            rw (lt-leb (length l) p b, le-ltb (length l) (end_of l p) fits, le-ltb 244 (sub_tlvs l p) (omega arith))
            (rw (e, f, g) refl)

    -- h is the first eleven bytes from p on, r what follows them, and k how many bytes of sub-TLVs h says
    module _
        (h r : List ℕ)
        (head : h ≡ take 11 (take (length l - p) (drop p l)))
        (rest : length r + 11 ≡ length (take (length l - p) (drop p l)))
        (k : ℕ) (e : k ≡ get_or h 10 0)
      where
        left : length r + 11 + p ≡ length l
        left = omega (arith, b, rest, length-take (length l - p) (drop p l), length-drop p l)

        byte_of : (j q : ℕ) → j < 11 → q ≡ p + j → get_or h j 0 ≡ get_or l q 0
        byte_of j q s at =
            ap (λ (x : List ℕ). get_or x j 0) head
            ∙ get_or-take 11 (take (length l - p) (drop p l)) j 0 s
            ∙ get_or-take (length l - p) (drop p l) j 0 (omega (arith, left))
            ∙ get_or-drop p l j 0
            ∙ ap (λ (x : ℕ). get_or l x 0) (sym at)

        identity : seven h 0 ≡ seven l p
        identity =
            omega (
              arith,
              byte_of 0 p (omega arith) (omega arith),
              byte_of 1 (p + 1) (omega arith) (omega arith),
              byte_of 2 (p + 2) (omega arith) (omega arith),
              byte_of 3 (p + 3) (omega arith) (omega arith),
              byte_of 4 (p + 4) (omega arith) (omega arith),
              byte_of 5 (p + 5) (omega arith) (omega arith),
              byte_of 6 (p + 6) (omega arith) (omega arith),
            )

        metric : three h 7 ≡ three l (p + 7)
        metric =
            omega (
              arith,
              byte_of 7 (p + 7) (omega arith) (omega arith),
              byte_of 8 (p + 7 + 1) (omega arith) (omega arith),
              byte_of 9 (p + 7 + 2) (omega arith) (omega arith),
            )

        size : k ≡ sub_tlvs l p
        size = e ∙ byte_of 10 (p + 10) (omega arith) (omega arith)

        pub item_past_head : length r < k → Err PastList ≡ item_at l p
        item_past_head s = item_past k size (omega (arith, left, s))

        module _ (s : k ≤ length r) where
          pub item_long_head : 244 < k → Err LongSubTlvs ≡ item_at l p
          item_long_head m = item_long k size (omega (arith, left)) m

          pub item_entry_head :
              k ≤ 244
              → (i m : ℕ)
              → i ≡ seven h 0
              → m ≡ three h 7
              → Ok (Some (record { identity = i; metric = m; next = p + 11 + k })) ≡ item_at l p
          item_entry_head m i v f g = item_entry k size (omega (arith, left)) m i v (f ∙ identity) (g ∙ metric)

-- what `item` returns
pub ruleset item_laws = (item_end, item_short, item_past_head, item_long_head, item_entry_head)

-- ---- where an entry ends
abbrev Inside : List ℕ → ℕ → Item → Type 0
Inside l p (Ok None) = Unit {0}
Inside l p (Ok (Some x)) = (p < x.next) × (x.next ≤ length l)
Inside l p (Err k) = Unit {0}

inside : (l : List ℕ) (p : ℕ) → Inside l p (item_at l p)
inside l p = elim (dec_le (length l) p) [
  | yes a ↦ subst (Inside l p) (item_end l p a) tt
  | no a ↦ elim (dec_lt (length l) (end_of l p)) [
    | yes b ↦ subst (Inside l p) (runs_past l p (omega arith) b) tt
    | no b ↦ elim (dec_lt 244 (sub_tlvs l p)) [
      | yes c ↦ subst (Inside l p) (item_long l p (omega arith) (sub_tlvs l p) refl (omega arith) c) tt
      | no c ↦
          subst (Inside l p)
          (item_entry l p (omega arith) (sub_tlvs l p) refl (omega arith) (omega arith) (seven l p) (three l (p + 7))
          refl refl)
          (omega arith, omega arith)
    ]
  ]
]

pub next_inside :
    (l : List ℕ) (p : ℕ) (x : Neighbour)
    → item_at l p ≡ Ok (Some x)
    → (p < x.next) × (x.next ≤ length l)
next_inside l p x r = subst (Inside l p) r (inside l p)

-- ---- the items from a place on
enough :
    (l : List ℕ) (h k p : ℕ)
    → length l ≤ p + h
    → length l ≤ p + k
    → items_from l h p ≡ items_from l k p
unfolding items_from
enough l zero zero p a b = refl
enough l zero (suc k) p a b = ap (λ (i : Item). followed i (items_from l k)) (item_end l p (omega arith))
enough l (suc h) zero p a b = sym (ap (λ (i : Item). followed i (items_from l h)) (item_end l p (omega arith)))
enough l (suc h) (suc k) p a b =
    go (item_at l p) (inside l p) (λ q c. enough l h k q (omega arith) (omega arith))
  where
    go :
        (i : Item)
        → Inside l p i
        → ((q : ℕ) → p < q → items_from l h q ≡ items_from l k q)
        → followed i (items_from l h) ≡ followed i (items_from l k)
    go (Ok None) x f = refl
    go (Ok (Some n)) x f = ap (λ (l : List Read). Ok n ∷ l) (f n.next x.0)
    go (Err k) x f = refl

module _ (l : List ℕ) (p : ℕ) where
  opened : items_at l p ≡ followed (item_at l p) (items_at l)
  unfolding items_at items_from
  opened = enough l (length l) (suc (length l)) p (omega arith) (omega arith)

  pub items_end : item_at l p ≡ Ok None → items_at l p ≡ []
  items_end r = opened ∙ ap (λ (x : Item). followed x (items_at l)) r

  pub items_entry : (x : Neighbour) → item_at l p ≡ Ok (Some x) → items_at l p ≡ Ok x ∷ items_at l x.next
  items_entry x r = opened ∙ ap (λ (x : Item). followed x (items_at l)) r

  items_last : (k : Refusal) → item_at l p ≡ Err k → items_at l p ≡ Err k ∷ []
  items_last k r = opened ∙ ap (λ (x : Item). followed x (items_at l)) r

-- nothing is left at the end of the list, where a reader is behind a fault
pub items_fault :
    (l : List ℕ) (p : ℕ) (k : Refusal)
    → item_at l p ≡ Err k
    → items_at l p ≡ Err k ∷ items_at l (length l)
items_fault l p k r =
    let none = items_end l (length l) (sym (item_end l (length l) (omega arith))) in
    items_last l p k r ∙ ap (λ (x : List Read). Err k ∷ x) (sym none)

-- what `next` returns
pub ruleset next_laws = (items_end, items_entry, items_fault)

-- ---- identities
-- the bytes of one identity are those of the other
abbrev pub SameBytes : (l : List ℕ) (p : ℕ) (m : List ℕ) (q : ℕ) → Type 0
SameBytes l p m q = (k : ℕ) → k < 7 → get_or l (p + k) 0 ≡ get_or m (q + k) 0

-- the numbers in the first k of seven bytes
abbrev part : (l : List ℕ) (p k : ℕ) → ℕ
part l p zero = 0
part l p (suc k) = 256 * part l p k + get_or l (p + k) 0

whole_part : (l : List ℕ) (p : ℕ) → seven l p ≡ part l p 7
whole_part l p =
    let start : get_or l (p + 0) 0 ≡ get_or l p 0 = ap (λ (k : ℕ). get_or l k 0) (omega arith) in
    omega (arith, start)

part_same : (l : List ℕ) (p : ℕ) (m : List ℕ) (q k : ℕ)
    → ((j : ℕ) → j < k → get_or l (p + j) 0 ≡ get_or m (q + j) 0)
    → part l p k ≡ part m q k
part_same l p m q zero s = refl
part_same l p m q (suc k) s =
    omega (arith, part_same l p m q k (λ j h. s j (omega arith)), s k (omega arith))

-- each byte is told from the number that it ends (`byte_same`)
part_told : (l : List ℕ) (p : ℕ) (m : List ℕ) (q k : ℕ)
    → ((j : ℕ) → get_or l j 0 < 256)
    → ((j : ℕ) → get_or m j 0 < 256)
    → part l p k ≡ part m q k
    → (j : ℕ) → j < k → get_or l (p + j) 0 ≡ get_or m (q + j) 0
part_told l p m q zero a b e j h = absurd (not-suc-le-zero h)
part_told l p m q (suc k) a b e j h =
    let last =
    byte_same (part l p k) (part m q k) (get_or l (p + k) 0) (get_or m (q + k) 0) (a (p + k)) (b (q + k)) e in
    ⊎_elim
    (λ (s : j ≡ k). rw s last.1)
    (λ (s : j < k). part_told l p m q k a b last.0 j s)
    (eq-or-lt_of_le (le_of_suc-le-suc h))

-- the elements of a list are bytes
abbrev pub InBytes : (l : List ℕ) → Type 0
InBytes l = (k : ℕ) → get_or l k 0 < 256

pub same_identity :
    (l : List ℕ) (p : ℕ) (m : List ℕ) (q : ℕ)
    → InBytes l
    → InBytes m
    → (seven l p ≡ seven m q) ↔ SameBytes l p m q
same_identity l p m q a b = (
  λ e. part_told l p m q 7 a b (sym (whole_part l p) ∙ e ∙ whole_part m q),
  λ s. whole_part l p ∙ part_same l p m q 7 s ∙ sym (whole_part m q),
)
