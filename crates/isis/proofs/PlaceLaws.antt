-- A row lowered by the metrics of a list, place by place: what is left of the list, with the row at hand, gives what
-- the whole list gives with the row at first. i is what stands at the place p, where the rest of the list begins.
--     AllKnown                     the identities of all entries are in the table
--     Lowering                     what is left gives the same, cell by cell
--     lowering_start               it holds before the first entry
--     lowering_end, -fault         where nothing is left the row is what was asked for
--     lowering_less, -stays        an entry with a lower metric, and one with none
--     entry_known, entry_router    its identity has a row, whose router has a cell
--     all_known                    so it is for every entry of a list that is not refused
use Rattle.std.specs.Prelude.{ℕ, ◌≤◌, ◌<◌, min, ◌≡◌, refl, true, ◌≢◌, List, [], ◌∷◌, length, get_or, set}
use Rattle.std.specs.Prelude.{Some, None, Ok, Err}
use Rattle.std.proofs.Math.Path.{sym}
use Rattle.std.proofs.Common.{ap, ◌∙◌, subst, arith, length-set, get_or-set_same, get_or-set_other, ltb-true}
use Rattle.std.proofs.Common.{eq-eqb, ne_eqb}
use Rattle.std.proofs.Math.Decide.{ℕ_discrete}
use Rattle.area.specs.Limits.{width}
use Rattle.area.proofs.TableLaws.{is_build}
use Rattle.area.specs.declared.refusal.Refusal.{Refusal}
use Rattle.tlv.specs.declared.Neighbour.{Neighbour}
use Rattle.tlv.specs.Items.{Item, Read, item_at, items, items_at}
use Rattle.tlv.proofs.ItemLaws.{items_end, items_entry}
use Rattle.tlv.proofs.AfterLaws.{items_refused}
use Rattle.isis.specs.Identities.{row_count, router, row_of, is_known}
use Rattle.isis.specs.Identities.{RowsIn}
use Rattle.isis.proofs.FirstRowLaws.{of_known}
use Rattle.isis.specs.Lists.{items_refusal, lowest_to}
use Rattle.isis.proofs.ListLaws.{passed_of, refusal_both, no_fault, lowest_none, lowest_next}
use Rattle.isis.proofs.LoopLaws.{lowest_fault}
use Rattle.isis.specs.Rows.{lowered_row}

-- the identities of all entries are in the table
abbrev pub AllKnown : (t : List ℕ) (l : List Read) → Type 0
AllKnown t [] = Unit {0}
AllKnown t (Err k ∷ l) = AllKnown t l
AllKnown t (Ok x ∷ l) = (is_known t x.identity ≡ true) × AllKnown t l

pub record Lowering (t l before : List ℕ) (p : ℕ) (row : List ℕ) : Type 0 where
  pub size : length row ≡ width
  pub cells :
      (j : ℕ)
      → j < width
      → lowest_to t j (get_or row j 0) (items_at l p) ≡ lowest_to t j (get_or before j 0) (items l)
  pub known : AllKnown t (items_at l p)

pub lowering_start :
    (t l row : List ℕ)
    → length row ≡ width
    → AllKnown t (items l)
    → Lowering t l row 0 row
lowering_start t l row e k = record { size = e; cells = λ j h. refl; known = k }

module _
    (t l before : List ℕ) (p : ℕ) (row : List ℕ) (now : Lowering t l before p row)
    (i : Item) (r : i ≡ item_at l p)
  where
    pub done :
        ((j : ℕ) → lowest_to t j (get_or row j 0) (items_at l p) ≡ get_or row j 0)
        → row ≡ lowered_row t l before
    unfolding lowered_row
    done none =
        is_build width (λ j. lowest_to t j (get_or before j 0) (items l)) row now.size
        (λ j h. sym (none j) ∙ now.cells j h)

    pub lowering_end : i ≡ Ok None → row ≡ lowered_row t l before
    lowering_end q =
        let none = items_end l p (sym r ∙ q) in
        done (λ j. ap (lowest_to t j (get_or row j 0)) none ∙ lowest_none t j (get_or row j 0))

    pub lowering_fault : (k : Refusal) → i ≡ Err k → row ≡ lowered_row t l before
    lowering_fault k q = done (λ j. lowest_fault t j (get_or row j 0) (items_at l p) k (items_refused l p i r k q))

    -- an entry: e is the first row with its identity, and m that row's router
    module _ (x : Neighbour) (q : i ≡ Ok (Some x)) (e : ℕ) (is : e ≡ row_of t x.identity) where
      first_is : items_at l p ≡ Ok x ∷ items_at l x.next
      first_is = items_entry l p x (sym r ∙ q)

      pub both : (is_known t x.identity ≡ true) × AllKnown t (items_at l x.next)
      both = subst (AllKnown t) first_is now.known

      pub entry_known : e < row_count t
      entry_known = omega (arith, is, ltb-true (row_of t x.identity) (row_count t) both.0)

      module _ (m : ℕ) (told : m ≡ router t e) (rows : RowsIn width t (row_count t)) where
        pub entry_router : m < width
        entry_router = omega (arith, told, rows e entry_known)

        -- the cell of the entry's router, and every other
        pub taken :
            lowest_to t m (get_or row m 0) (items_at l p)
            ≡ lowest_to t m (min (get_or row m 0) x.metric) (items_at l x.next)
        taken =
            ap (lowest_to t m (get_or row m 0)) first_is
            ∙ lowest_next t m (get_or row m 0) x (items_at l x.next)
            ∙ rw (of_known t x.identity e is entry_known m ∙ eq-eqb (router t e) m (sym told)) refl

        pub passed :
            (j : ℕ)
            → j ≢ m
            → lowest_to t j (get_or row j 0) (items_at l p) ≡ lowest_to t j (get_or row j 0) (items_at l x.next)
        passed j f =
            ap (lowest_to t j (get_or row j 0)) first_is
            ∙ lowest_next t j (get_or row j 0) x (items_at l x.next)
            ∙ rw (
            of_known t x.identity e is entry_known j
            ∙ ne_eqb (router t e) j (λ s. f (sym (told ∙ s)))
            )
            refl

        -- a row whose cell of m is the lower, and that has every other cell as it was
        pub next :
            (after : List ℕ)
            → length after ≡ width
            → get_or after m 0 ≡ min (get_or row m 0) x.metric
            → ((j : ℕ) → j ≢ m → get_or after j 0 ≡ get_or row j 0)
            → Lowering t l before x.next after
        next after size here others = record {
          size = size;
          cells = λ j h. by_cell j h (ℕ_discrete j m);
          known = both.1;
        }
          where
            by_cell :
                (j : ℕ)
                → j < width
                → Dec (j ≡ m)
                → lowest_to t j (get_or after j 0) (items_at l x.next) ≡ lowest_to t j (get_or before j 0) (items l)
            by_cell j h (yes s) =
                rw s
                (ap (λ (v : ℕ). lowest_to t m v (items_at l x.next)) here
                ∙ sym taken
                ∙ now.cells m entry_router)
            by_cell j h (no f) =
                ap (λ (v : ℕ). lowest_to t j v (items_at l x.next)) (others j f)
                ∙ sym (passed j f)
                ∙ now.cells j h

        pub lowering_less : x.metric < get_or row m 0 → Lowering t l before x.next (set row m x.metric)
        lowering_less h =
            next (set row m x.metric) (simp length-set now.size)
            (get_or-set_same row m x.metric 0 (omega (arith, entry_router, now.size)) ∙ omega arith)
            (λ j f. get_or-set_other row m j x.metric 0 f)

        pub lowering_stays : get_or row m 0 ≤ x.metric → Lowering t l before x.next row
        lowering_stays h = next row now.size (omega arith) (λ j f. refl)

-- ---- a list without a refusal
pub all_known : (t : List ℕ) (i : ℕ) (l : List Read) → items_refusal t i l ≡ 0 → AllKnown t l
all_known t i [] z = tt
all_known t i (Err k ∷ l) z = absurd (no_fault t i k l z)
all_known t i (Ok x ∷ l) z =
    let both = refusal_both t i x l z in
    ((passed_of t i x both.0).known, all_known t i l both.1)
