-- The loop that lowers a row by the metrics of a list: what is left of the items, with the row at hand, gives what all
-- of them give with the row at first.
--     Lowering                     this, of the first refusal and cell by cell
--     lowering_start               it holds before the first item
--     lowering_end, lowered_all    where nothing is left there is no refusal, and the row is what was asked for
--     lowering_fault, lowering_refused
--                                  the first refusal is that of the next item
--     lowering_next                an entry that is not refused lowers the cell of its router
use Rattle.std.specs.Prelude.{ℕ, ◌<◌, min, ◌≡◌, refl, ◌≢◌, List, [], ◌∷◌, length, get_or, set, Ok, Err, Some}
use Rattle.std.proofs.Math.Path.{sym}
use Rattle.std.proofs.Common.{ap, ◌∙◌, arith, length-set, get_or-set_same, get_or-set_other}
use Rattle.std.proofs.Math.Decide.{ℕ_discrete}
use Rattle.area.specs.Limits.{width}
use Rattle.area.specs.Tests.{pick}
use Rattle.area.specs.Refusals.{refusal_number}
use Rattle.area.proofs.TableLaws.{is_build}
use Rattle.area.specs.declared.refusal.Refusal.{Refusal}
use Rattle.tlv.specs.declared.Neighbour.{Neighbour}
use Rattle.tlv.specs.Items.{Read, items}
use Rattle.isis.specs.Identities.{router_of, is_of}
use Rattle.isis.proofs.IdentityLaws.{of_router, of_other}
use Rattle.isis.specs.Lists.{neighbour_refusal, items_refusal, lowest_to}
use Rattle.isis.proofs.ListLaws.{refusal_none, refusal_fault, refusal_first, refusal_next, lowest_none, lowest_next}
use Rattle.isis.specs.Rows.{lowered_row}

-- t is the table of identities, i the router of the list l, and `before` its row at first
module _ (t : List ℕ) (i : ℕ) (l before : List ℕ) where
  pub record Lowering (left : List Read) (row : List ℕ) : Type 0 where
    pub size : length row ≡ width
    pub refusal : items_refusal t i left ≡ items_refusal t i (items l)
    pub cells :
        (j : ℕ)
        → j < width
        → lowest_to t j (get_or row j 0) left ≡ lowest_to t j (get_or before j 0) (items l)

  pub lowering_start : length before ≡ width → Lowering (items l) before
  lowering_start e = record { size = e; refusal = refl; cells = λ j h. refl }

  module _ (left : List Read) (row : List ℕ) (now : Lowering left row) where
    pub lowering_end : left ≡ [] → 0 ≡ items_refusal t i (items l)
    lowering_end e = sym (refusal_none t i) ∙ ap (items_refusal t i) (sym e) ∙ now.refusal

    pub lowered_all : left ≡ [] → row ≡ lowered_row t l before
    unfolding lowered_row
    lowered_all e =
        is_build width (λ j. lowest_to t j (get_or before j 0) (items l)) row now.size
        (λ j h.
        sym (lowest_none t j (get_or row j 0))
        ∙ ap (lowest_to t j (get_or row j 0)) (sym e)
        ∙ now.cells j h)

    module _ (rest : List Read) where
      pub lowering_fault : (k : Refusal) → left ≡ Err k ∷ rest → refusal_number k ≡ items_refusal t i (items l)
      lowering_fault k e = sym (refusal_fault t i k rest) ∙ ap (items_refusal t i) (sym e) ∙ now.refusal

      module _ (x : Neighbour) (e : left ≡ Ok x ∷ rest) where
        pub lowering_refused :
            (v : ℕ)
            → v ≡ neighbour_refusal t i x
            → v ≢ 0
            → v ≡ items_refusal t i (items l)
        lowering_refused v is f =
            is
            ∙ sym (refusal_first t i x rest (λ z. f (is ∙ z)))
            ∙ ap (items_refusal t i) (sym e)
            ∙ now.refusal

        -- m is the entry's router
        module _
            (m : ℕ) (found : router_of t x.identity ≡ Some m) (within : m < width)
            (passed : 0 ≡ neighbour_refusal t i x)
          where
            abbrev lower : List ℕ
            lower = set row m (min (get_or row m 0) x.metric)

            one : (j : ℕ) → lowest_to t j (get_or row j 0) left ≡ lowest_to t j (get_or lower j 0) rest
            one j =
                ap (lowest_to t j (get_or row j 0)) e
                ∙ lowest_next t j (get_or row j 0) x rest
                ∙ by_cell (ℕ_discrete m j)
              where
                by_cell :
                    Dec (m ≡ j)
                    → lowest_to t j (pick (is_of t x.identity j) (min (get_or row j 0) x.metric) (get_or row j 0)) rest
                    ≡ lowest_to t j (get_or lower j 0) rest
                by_cell (yes s) =
                    rw (of_router t x.identity m found j s)
                    (ap (λ (v : ℕ). lowest_to t j v rest)
                    (ap (λ (k : ℕ). min (get_or row k 0) x.metric) (sym s)
                    ∙ sym (get_or-set_same row m (min (get_or row m 0) x.metric) 0 (omega (arith, within, now.size)))
                    ∙ ap (λ (k : ℕ). get_or lower k 0) s))
                by_cell (no f) =
                    rw (of_other t x.identity m found j f)
                    (ap (λ (v : ℕ). lowest_to t j v rest)
                    (sym (get_or-set_other row m j (min (get_or row m 0) x.metric) 0 (λ z. f (sym z)))))

            pub lowering_next : Lowering rest lower
            lowering_next = record {
              size = simp length-set now.size;
              refusal = sym (refusal_next t i x rest (sym passed)) ∙ ap (items_refusal t i) (sym e) ∙ now.refusal;
              cells = λ j h. sym (one j) ∙ now.cells j h;
            }

-- what `fill_row` answers, and keeps
pub ruleset row_laws = (lowering_start, lowering_end, lowered_all, lowering_fault, lowering_refused, lowering_next)
