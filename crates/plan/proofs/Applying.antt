-- The loop that makes one change after another in the new metric table.
--     cell_after        the cell (i, j) of the new table when the first k changes are made
--     Applied          t is the new table when the first k changes are made
--     applied_none, applied_more, applied_all
--     given_ends        the ends of a change that the loop is given are routers
-- It holds of the copied table and no change, of one change more when that one is put in, and where it holds of all
-- changes t is the new table.
use Rattle.std.proofs.Common.{ℕ, ◌+◌, ◌*◌, ◌≤◌, ◌<◌, ◌≡◌, refl, sym, ap, subst, ◌∙◌, true, false, not, ◌&&◌, ◌≢◌}
use Rattle.std.proofs.Common.{⊎_elim, List, [], add-one, arith, ltb, eqb, length, set, length-set}
use borrow.Author.Tests.{lt-ltb, ne_eqb}
use Rattle.area.specs.Limits.{width, unused}
use Rattle.area.specs.Tests.{pick}
use Rattle.area.specs.Tables.{cell, tabulate}
use Rattle.area.proofs.TestLaws.{look}
use Rattle.area.proofs.TableLaws.{length_tabulate, cell_tabulate, is_tabulate}
use Rattle.entries.specs.declared.Entry.{Entry}
use Rattle.entries.specs.Entries.{entry_count, entry_of, from, to, metric, is_for_pair, listed_metric}
use Rattle.entries.proofs.EntryLaws.{entry_count_is, of_pair, given_start, given_more, given_kept, cell_entered}
use Rattle.entries.specs.declared.Entries.{Entries}
use Rattle.entries.specs.Each.{Gives}
use Rattle.entries.proofs.EachLaws.{Visits, visits_listed, visits_entry}
use Rattle.changes.specs.Sound.{Change, Sound}
use Rattle.plan.specs.NewMetrics.{new_cell, new_metrics}

abbrev pub cell_after : (n : ℕ) (m l : List ℕ) (k i j : ℕ) → ℕ
cell_after n m l k i j =
    pick (ltb i n && (ltb j n && not (eqb i j))) (listed_metric l k i j (cell width m i j)) unused

pub record Applied (n : ℕ) (m l : List ℕ) (k : ℕ) (t : List ℕ) : Type 0 where
  pub size : length t ≡ width * width
  pub cells : (i j : ℕ) → i < width → j < width → cell width t i j ≡ cell_after n m l k i j

module _ (n : ℕ) (m l : List ℕ) where
  -- before the first change the cell does not depend on the list
  cell_start : (i j : ℕ) → new_cell n m [] i j ≡ cell_after n m l 0 i j
  unfolding new_cell
  cell_start i j =
      let old = cell width m i j in
      let none = ap (λ (x : ℕ). listed_metric [] x i j old) (entry_count_is [] 0 refl) ∙ given_start [] i j old in
      ap (λ (x : ℕ). pick (ltb i n && (ltb j n && not (eqb i j))) x unused) (none ∙ sym (given_start l i j old))

  pub applied_none : (t : List ℕ) → t ≡ tabulate width (new_cell n m []) → Applied n m l 0 t
  applied_none t e = record {
    size = ap length e ∙ length_tabulate width (new_cell n m []);
    cells = λ i j a b.
        ap (λ (x : List ℕ). cell width x i j) e ∙ cell_tabulate width (new_cell n m []) i j a b ∙ cell_start i j;
  }

  -- one change more
  module _ (k i j : ℕ) where
    cell_more :
        from l k < n → to l k < n → from l k ≢ to l k
        → is_for_pair l k i j ≡ true
        → cell_after n m l (k + 1) i j ≡ metric l k
    cell_more a b f t =
        let p = of_pair l k i j t in
        let low : i < n = omega arith in
        let high : j < n = omega arith in
        let apart : i ≢ j = λ q. let x : ⊥ = omega arith in x in
        rw (lt-ltb i n low, lt-ltb j n high, ne_eqb i j apart, add-one) (given_more l k i j (cell width m i j) t)

    cell_kept : is_for_pair l k i j ≡ false → cell_after n m l (k + 1) i j ≡ cell_after n m l k i j
    cell_kept e = rw (add-one, given_kept l k i j (cell width m i j) e) refl

  module _ (k : ℕ) (most : n ≤ width) (c : Change n l k) (t : List ℕ) (done : Applied n m l k t) where
    put :
        (i j : ℕ) → i < width → j < width
        → cell width (set t (width * from l k + to l k) (metric l k)) i j ≡ cell_after n m l (k + 1) i j
    put i j a b =
        cell_entered l k t done.size (omega (arith, c.from_in)) (omega (arith, c.to_in)) i j a b
        ∙ ⊎_elim
        (λ h. rw h (sym (cell_more k i j c.from_in c.to_in c.apart h)))
        (λ f. rw f (done.cells i j a b ∙ sym (cell_kept k i j f)))
        (look (is_for_pair l k i j))

    pub applied_more :
        (x : Entry) → x ≡ entry_of l k → Applied n m l (k + 1) (set t (width * x.from + x.to) x.metric)
    applied_more x is =
        subst (λ (y : Entry). Applied n m l (k + 1) (set t (width * y.from + y.to) y.metric)) (sym is)
        (record { size = simp length-set done.size; cells = put })

  pub applied_all : (t : List ℕ) → Applied n m l (entry_count l) t → t ≡ new_metrics n m l
  unfolding new_metrics new_cell
  applied_all t done = is_tabulate width (new_cell n m l) t (omega arith) done.size done.cells

-- ---- a change that the loop is given is one of the list, and has no fault
pub given_ends :
    (n : ℕ) (l : List ℕ) {s t : Entries} {x : Entry}
    → Sound n l → Visits l s → Gives s x t → (x.from < n) × (x.to < n)
given_ends n l {s} {t} {x} sound visits g =
    let change = sound s.next (visits_listed visits g) in
    let is = visits_entry visits g in
    (rw is change.from_in, rw is change.to_in)
