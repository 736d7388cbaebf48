-- For callers: the metric table of accepted lists is that of an area. Paths accepts it, no router has a link to itself,
-- and beyond n there is none.
--     listed_size                      it has as many cells as a table has
--     listed_some                      every cell is a metric, or that of a link that is not used
--     listed_self, listed_beyond       no link from a router to itself, and none beyond n
-- An entry that is not refused has a metric that is not 0, and is of another router than the list's, one below n.
use Rattle.std.specs.Prelude.{ℕ, ◌*◌, ◌≤◌, ◌<◌, min, ◌≡◌, Bool, true, false, ◌≢◌, ◌⊎◌, ltb, length, Option, Some, None}
use Rattle.std.specs.Prelude.{Ok, Err}
use Rattle.std.proofs.Math.Path.{refl}
use Rattle.std.proofs.Common.{◌∙◌, inl, inr, arith, lt-ltb, le-ltb}
use mathlib.Core.List.{List, [], ◌∷◌}
use Rattle.std.proofs.Math.Decide.{dec_lt}
use Rattle.area.specs.Limits.{width, unused}
use Rattle.area.specs.Tests.{pick}
use Rattle.area.specs.Tables.{cell}
use Rattle.area.proofs.TableLaws.{length_tabulate, cell_tabulate}
use Rattle.tlv.specs.Items.{Read, items}
use Rattle.isis.specs.Identities.{row_count, router_of, is_of}
use Rattle.isis.specs.Identities.{RowsIn}
use Rattle.isis.proofs.IdentityLaws.{rows_in, not_known, of_other, router_below, of_none}
use Rattle.isis.specs.Lists.{items_refusal, lowest_to, list_of, listed_to}
use Rattle.isis.proofs.ListLaws.{passed_of, refusal_both, no_fault, list_passed}
use Rattle.isis.specs.Isis.{area_refusal, listed}
use Rattle.isis.proofs.IsisLaws.{lists_none, accepted_both}

-- ---- items that are not refused, in the list of router i
pick_min : (b : Bool) (v m : ℕ) → 1 ≤ v → m ≢ 0 → (1 ≤ pick b (min v m) v) × (pick b (min v m) v ≤ v)
pick_min true v m h f = (omega arith, omega arith)
pick_min false v m h f = (omega arith, omega arith)

module _ (t : List ℕ) (i : ℕ) where
  -- from a metric v on, the lowest is a metric still, and not above v
  lowest_in :
      (j v : ℕ) (l : List Read)
      → items_refusal t i l ≡ 0
      → 1 ≤ v
      → (1 ≤ lowest_to t j v l) × (lowest_to t j v l ≤ v)
  unfolding lowest_to
  lowest_in j v [] z h = (h, omega arith)
  lowest_in j v (Err k ∷ l) z h = absurd (no_fault t i k l z)
  lowest_in j v (Ok x ∷ l) z h =
      let both = refusal_both t i x l z in
      let here = pick_min (is_of t x.identity j) v x.metric h (passed_of t i x both.0).some in
      let rest = lowest_in j (pick (is_of t x.identity j) (min v x.metric) v) l both.1 here.0 in
      (rest.0, omega (arith, rest.1, here.1))

  -- a router of which no entry is keeps v
  lowest_same :
      (j v : ℕ) (l : List Read)
      → items_refusal t i l ≡ 0
      → ((x : ℕ) → is_of t x i ≡ false → is_of t x j ≡ false)
      → lowest_to t j v l ≡ v
  unfolding lowest_to
  lowest_same j v [] z f = refl
  lowest_same j v (Err k ∷ l) z f = absurd (no_fault t i k l z)
  lowest_same j v (Ok x ∷ l) z f =
      let both = refusal_both t i x l z in
      let none = f x.identity (passed_of t i x both.0).other in
      rw none (lowest_same j v l both.1 f)

-- no identity is of a router that has no row
not_of : (n : ℕ) (t : List ℕ) → RowsIn n t (row_count t) → (x j : ℕ) → n ≤ j → is_of t x j ≡ false
not_of n t rows x j h = by_router (router_of t x) refl
  where
    by_router : (o : Option ℕ) → router_of t x ≡ o → is_of t x j ≡ false
    by_router None e = of_none t x j (not_known t x e)
    by_router (Some k) e = of_other t x k e j (λ q. let x : ⊥ = omega (arith, router_below t x k e n rows, q) in x)

-- ---- the table
module _ (n : ℕ) (t d : List ℕ) (z : area_refusal n t d ≡ 0) where
  passes : (i : ℕ) → i < n → items_refusal t i (items (list_of d i)) ≡ 0
  passes i h = list_passed t d i (lists_none n t d (accepted_both n t d z).1 i h)

  pub listed_size : length (listed n t d) ≡ width * width
  unfolding listed
  listed_size = length_tabulate width (λ i j. pick (ltb i n) (listed_to t d i j) unused)

  module _ (i j : ℕ) (a : i < width) (b : j < width) where
    at : cell width (listed n t d) i j ≡ pick (ltb i n) (listed_to t d i j) unused
    unfolding listed
    at = cell_tabulate width (λ i j. pick (ltb i n) (listed_to t d i j) unused) i j a b

    at_inside : i < n → cell width (listed n t d) i j ≡ lowest_to t j unused (items (list_of d i))
    unfolding listed_to
    at_inside h = at ∙ rw (lt-ltb i n h) refl

    at_beyond : n ≤ i → cell width (listed n t d) i j ≡ unused
    at_beyond h = at ∙ rw (le-ltb i n h) refl

    pub listed_some : (1 ≤ cell width (listed n t d) i j) × (cell width (listed n t d) i j ≤ unused)
    listed_some = elim (dec_lt i n) [
      | yes h ↦
          let in_bounds = lowest_in t i j unused (items (list_of d i)) (passes i h) (omega arith) in
          (omega (arith, at_inside h, in_bounds.0), omega (arith, at_inside h, in_bounds.1))
      | no h ↦ (omega (arith, at_beyond (omega arith)), omega (arith, at_beyond (omega arith)))
    ]

    pub listed_beyond : (n ≤ i) ⊎ (n ≤ j) → cell width (listed n t d) i j ≡ unused
    listed_beyond (inl h) = at_beyond h
    listed_beyond (inr h) = elim (dec_lt i n) [
      | yes l ↦
          at_inside l
          ∙ lowest_same t i j unused (items (list_of d i)) (passes i l)
          (λ x o. not_of n t (rows_in n t (accepted_both n t d z).0) x j h)
      | no l ↦ at_beyond (omega arith)
    ]

  pub listed_self : (i : ℕ) → i < width → cell width (listed n t d) i i ≡ unused
  listed_self i a = elim (dec_lt i n) [
    | yes h ↦ at_inside i i a a h ∙ lowest_same t i i unused (items (list_of d i)) (passes i h) (λ x o. o)
    | no h ↦ at_beyond i i a a (omega arith)
  ]
