-- A loop over the items of a list: what is left of the list from the place p on decides. i is what stands there.
--     fault_first, lowest_fault            items that begin with a fault: their refusal, and the metric that they give
--     list_end, list_fault, list_first     one for each return of a loop that judges
--     list_next, list_less                 and for the next turn: the same is known, and less is left
use Rattle.std.specs.Prelude.{ℕ, ◌-◌, ◌<◌, ◌≡◌, Bool, true, false, not, List, [], ◌∷◌, eqb, length}
use Rattle.std.specs.Prelude.{Result, Some, None, Ok, Err}
use Rattle.std.proofs.Math.Path.{refl}
use Rattle.std.proofs.Common.{sym, ap, ◌∙◌, arith, eqb-true}
use Rattle.std.proofs.lemmas.Bool.{eqb-false, not-true, not-false}
use Rattle.area.specs.Refusals.{refusal_number, verdict_number}
use Rattle.area.specs.declared.refusal.Refusal.{Refusal}
use Rattle.tlv.specs.declared.Neighbour.{Neighbour}
use Rattle.tlv.specs.Items.{Item, Read, item_at, items, items_at}
use Rattle.tlv.proofs.ItemLaws.{next_inside, items_end, items_entry}
use Rattle.tlv.proofs.AfterLaws.{items_refused}
use Rattle.isis.specs.Lists.{neighbour_refusal, items_refusal, lowest_to}
use Rattle.isis.proofs.ListLaws.{refusal_none, refusal_fault, refusal_first, refusal_next}

-- whatever stands behind a fault
pub fault_first :
    (t : List ℕ) (i : ℕ) (k : Refusal) (rest : List Read)
    → items_refusal t i (Err k ∷ rest) ≡ refusal_number k
fault_first t i k rest = refusal_fault t i k rest

pub lowest_fault :
    (t : List ℕ) (j v : ℕ) (l : List Read) (k : Refusal)
    → l ≡ Err k ∷ []
    → lowest_to t j v l ≡ v
unfolding lowest_to
lowest_fault t j v l k e = rw e refl

module _ (l : List ℕ) (p : ℕ) (i : Item) (r : i ≡ item_at l p) where
  pub list_less : (x : Neighbour) → i ≡ Ok (Some x) → length l - x.next < length l - p
  list_less x q = let ends = next_inside l p x (sym r ∙ q) in omega (arith, ends.0, ends.1)

  module _ (t : List ℕ) (a : ℕ) (inv : items_refusal t a (items l) ≡ items_refusal t a (items_at l p)) where
    pub list_end : i ≡ Ok None → 0 ≡ items_refusal t a (items l)
    list_end q =
        sym (refusal_none t a) ∙ ap (items_refusal t a) (sym (items_end l p (sym r ∙ q))) ∙ sym inv

    pub list_fault : (k : Refusal) → i ≡ Err k → refusal_number k ≡ items_refusal t a (items l)
    list_fault k q =
        sym (fault_first t a k []) ∙ ap (items_refusal t a) (sym (items_refused l p i r k q)) ∙ sym inv

    -- v is what was found of the entry, and ok whether that is accepted
    module _
        (x : Neighbour) (q : i ≡ Ok (Some x))
        (v : Result (Unit {0}) Refusal) (told : verdict_number v ≡ neighbour_refusal t a x)
        (ok : Bool) (good : ok ≡ eqb (verdict_number v) 0)
      where
        first_is : items_at l p ≡ Ok x ∷ items_at l x.next
        first_is = items_entry l p x (sym r ∙ q)

        pub list_first : not ok ≡ true → verdict_number v ≡ items_refusal t a (items l)
        list_first t' =
            let bad = eqb-false (verdict_number v) 0 (sym good ∙ not-true ok t') in
            told
            ∙ sym (refusal_first t a x (items_at l x.next) (λ z. bad (told ∙ z)))
            ∙ ap (items_refusal t a) (sym first_is)
            ∙ sym inv

        pub list_next : not ok ≡ false → items_refusal t a (items l) ≡ items_refusal t a (items_at l x.next)
        list_next t' =
            let none = sym told ∙ eqb-true (verdict_number v) 0 (sym good ∙ not-false ok t') in
            inv ∙ ap (items_refusal t a) first_is ∙ refusal_next t a x (items_at l x.next) none
