-- The loops that copy the old metrics, row by row, into a table that was cleared.
--     Copied, copied_none, copied_more, copied_row     the cells of one row, one place after another; then its own cell
--     Rows, rows_none, rows_more, rows_all             one row after another; then the table is copied
use Rattle.std.proofs.Math.Decide.{dec_lt, ℕ_discrete}
use Rattle.std.proofs.Common.{ℕ, ◌+◌, ◌*◌, ◌≤◌, ◌<◌, ◌≡◌, refl, sym, ap, ◌∙◌, ◌≢◌, ◌⊎◌, inl, inr, ⊎_elim, List, []}
use Rattle.std.proofs.Common.{arith, length, get_or, set, length-set, get_or-set_same, get_or-set_other}
use Rattle.area.specs.Limits.{width, unused}
use Rattle.area.specs.Tables.{build, cell, tabulate}
use Rattle.area.proofs.TableLaws.{length_build, build_at, is_tabulate}
use Rattle.plan.specs.NewMetrics.{new_cell}
use Rattle.plan.proofs.MetricLaws.{cell_own, cell_beyond, pair_copied}
use Rattle.plan.specs.Parts.{RowCopied}

-- ---- one row
-- t is `was`, with what m has at the places from a to b
pub record Copied (a b : ℕ) (m was t : List ℕ) : Type 0 where
  pub size : length t ≡ length was
  pub inside : (k : ℕ) → a ≤ k → k < b → get_or t k 0 ≡ get_or m k 0
  pub outside : (k : ℕ) → (k < a) ⊎ (b ≤ k) → get_or t k 0 ≡ get_or was k 0

module _ (a : ℕ) (m was : List ℕ) where
  pub copied_none : Copied a a m was was
  copied_none = record { size = refl; inside = λ k x y. absurd (omega arith); outside = λ k x. refl }

  pub copied_more :
      (b : ℕ) (t : List ℕ) → Copied a b m was t → a ≤ b → b < length was
      → Copied a (b + 1) m was (set t b (get_or m b 0))
  copied_more b t i low h = record {
    size = simp length-set i.size;
    inside = λ k x y. elim (ℕ_discrete k b) [
      | yes q ↦ rw q (get_or-set_same t b (get_or m b 0) 0 (omega (arith, i.size)))
      | no f ↦ get_or-set_other t b k (get_or m b 0) 0 f ∙ i.inside k x (omega arith)
    ];
    outside = λ k x.
        get_or-set_other t b k (get_or m b 0) 0 (λ q. let z : ⊥ = ⊎_elim (λ l. omega arith) (λ l. omega arith) x in z)
        ∙ i.outside k (⊎_elim inl (λ l. inr (omega arith)) x);
  }

  pub copied_row :
      (n i : ℕ) (t : List ℕ) → a ≡ width * i → n ≤ width → i < n → length was ≡ width * width
      → Copied a (a + n) m was t
      → RowCopied n m i was (set t (a + i) unused)
  copied_row n i t e most l size c = record {
    size = simp length-set c.size;
    own = ap (λ (k : ℕ). get_or (set t (a + i) unused) k 0) (omega arith)
        ∙ get_or-set_same t (a + i) unused 0 (omega (arith, c.size));
    row = λ j b f. kept (width * i + j) (λ q. f (omega arith)) ∙ c.inside (width * i + j) (omega arith) (omega arith);
    beyond = λ j b d. kept (width * i + j) (λ q. let z : ⊥ = omega arith in z)
        ∙ c.outside (width * i + j) (inr (omega arith));
    others = λ h j f d. kept (width * h + j) (λ q. f (omega arith))
        ∙ c.outside (width * h + j) (elim (dec_lt h i) [ yes b ↦ inl (omega arith) | no b ↦ inr (omega arith) ]);
  }
    where
      kept : (k : ℕ) → k ≢ a + i → get_or (set t (a + i) unused) k 0 ≡ get_or t k 0
      kept k f = get_or-set_other t (a + i) k unused 0 f

-- ---- one row after another
-- the rows before r are copied, and the others clear
pub record Rows (n : ℕ) (m : List ℕ) (r : ℕ) (t : List ℕ) : Type 0 where
  pub size : length t ≡ width * width
  pub done : (i j : ℕ) → i < r → j < width → cell width t i j ≡ new_cell n m [] i j
  pub rest : (i j : ℕ) → r ≤ i → i < width → j < width → cell width t i j ≡ unused

module _ (n : ℕ) (m : List ℕ) (most : n ≤ width) where
  pub rows_none : (was t : List ℕ) → length was ≡ width * width → t ≡ build (length was) (λ _. unused) → Rows n m 0 t
  rows_none was t size e = record {
    size = ap length e ∙ length_build (length was) (λ _. unused) ∙ size;
    done = λ i j a b. absurd (omega arith);
    rest = λ i j a b c. ap (λ (x : List ℕ). get_or x (width * i + j) 0) e
        ∙ build_at (length was) (λ _. unused) (width * i + j) (omega arith);
  }

  pub rows_more : (r : ℕ) (was t : List ℕ) → r < n → Rows n m r was → RowCopied n m r was t → Rows n m (r + 1) t
  rows_more r was t h i c = record {
    size = c.size ∙ i.size;
    done = λ h j a b. elim (ℕ_discrete h r) [
      | yes q ↦ rw q (row j b (ℕ_discrete r j) (dec_lt j n))
      | no f ↦ c.others h j f b ∙ i.done h j (omega arith) b
    ];
    rest = λ h j a b d. c.others h j (λ q. let z : ⊥ = omega arith in z) d ∙ i.rest h j (omega arith) b d;
  }
    where
      row : (j : ℕ) → j < width → Dec (r ≡ j) → Dec (j < n) → cell width t r j ≡ new_cell n m [] r j
      row j b (yes q) d = rw (← q) (c.own ∙ sym (cell_own n m [] r r refl))
      row j b (no f) (yes l) = c.row j l (λ q. f (sym q)) ∙ sym (pair_copied n m r j h l f)
      row j b (no f) (no g) =
          c.beyond j (omega arith) b
          ∙ i.rest r j (omega arith) (omega arith) b
          ∙ sym (cell_beyond n m [] r j (inr (omega arith)))

  pub rows_all : (t : List ℕ) → Rows n m n t → t ≡ tabulate width (new_cell n m [])
  rows_all t i =
      is_tabulate width (new_cell n m []) t (omega arith) i.size
      (λ h j a b. elim (dec_lt h n) [
        | yes l ↦ i.done h j l b
        | no f ↦ i.rest h j (omega arith) a b ∙ sym (cell_beyond n m [] h j (inl (omega arith)))
      ])
