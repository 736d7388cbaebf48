-- What follows the item i that stands at place p of a list, for each kind of item.
--     after_entry, after_end, after_refused    the place behind it
--     with_item, items_refused                 the items from its place on
use Rattle.std.specs.Prelude.{ℕ, ◌≡◌, List, [], ◌∷◌, length, Some, None, Ok, Err}
use Rattle.std.proofs.Math.Path.{refl}
use Rattle.std.proofs.Common.{sym, ap, ◌∙◌, arith}
use Rattle.area.specs.declared.refusal.Refusal.{Refusal}
use Rattle.tlv.specs.declared.Neighbour.{Neighbour}
use Rattle.tlv.specs.Items.{Item, Read, item_at, place_after, followed, items_at}
use Rattle.tlv.proofs.ItemLaws.{item_end, items_end, items_entry, items_fault}

module _ (l : List ℕ) (p : ℕ) (i : Item) (r : i ≡ item_at l p) where
  pub after_entry : (x : Neighbour) → i ≡ Ok (Some x) → x.next ≡ place_after l p
  unfolding place_after
  after_entry x q = rw (← r, q) refl

  pub after_end : i ≡ Ok None → p ≡ place_after l p
  unfolding place_after
  after_end q = rw (← r, q) refl

  pub after_refused : (k : Refusal) → i ≡ Err k → p ≡ place_after l p
  unfolding place_after
  after_refused k q = rw (← r, q) refl

  pub items_refused : (k : Refusal) → i ≡ Err k → items_at l p ≡ Err k ∷ []
  items_refused k q =
      let none = items_end l (length l) (sym (item_end l (length l) (omega arith))) in
      items_fault l p k (sym r ∙ q) ∙ ap (λ (x : List Read). Err k ∷ x) none

  pub with_item : (j : Item) → i ≡ j → items_at l p ≡ followed j (items_at l)
  with_item (Ok None) q = items_end l p (sym r ∙ q)
  with_item (Ok (Some x)) q = items_entry l p x (sym r ∙ q)
  with_item (Err k) q = items_refused k q
