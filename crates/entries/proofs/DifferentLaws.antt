-- How many entries of different pairs there can be between few routers.
--     different_most       entries of different pairs, whose ends are among k numbers, are at most k * k
-- `place` gives each of the k numbers a place below k, and so each entry a cell of a table of k rows, another one than
-- every other entry. If there were more entries than cells, then the first k * k + 1 of them would have a cell of their
-- own each, and one the place k * k behind the table (onto).
use Rattle.std.specs.Prelude.{ℕ, ◌+◌, ◌*◌, ◌/◌, ◌%◌, ◌≤◌, ◌<◌, ◌≡◌, true, List}
use Rattle.std.proofs.Math.Path.{sym, ap}
use Rattle.std.proofs.Common.{◌∙◌, arith}
use Rattle.std.proofs.Math.Bool.{false≢true}
use Rattle.std.proofs.Math.Decide.{dec_lt}
use Rattle.area.proofs.PigeonholeLaws.{onto}
use Rattle.area.proofs.TableLaws.{cell_in, row_of, column_of}
use Rattle.entries.specs.Entries.{from, to, is_first}
use Rattle.entries.proofs.EntryLaws.{pair_of, free_other}

module _
    (l : List ℕ) (count : ℕ)
    (new : (e : ℕ) → e < count → is_first l e ≡ true)
    (Among : ℕ → Type 0)
    (ends : (e : ℕ) → e < count → Among (from l e) × Among (to l e))
    (k : ℕ) (place : ℕ → ℕ)
    (inside : (r : ℕ) → Among r → place r < k)
    (apart : (r s : ℕ) → Among r → Among s → place r ≡ place s → r ≡ s)
  where
    -- the place of the entry's cell
    cell_of : (e : ℕ) → ℕ
    cell_of e = k * place (from l e) + place (to l e)

    cell_below : (e : ℕ) → e < count → cell_of e < k * k
    unfolding cell_of
    cell_below e h =
        let a = ends e h in
        cell_in k (place (from l e)) (place (to l e)) (inside (from l e) a.0) (inside (to l e) a.1)

    -- an earlier entry has another pair, and so another cell
    earlier : (d e : ℕ) → d < e → e < count → cell_of d ≡ cell_of e → ⊥
    unfolding cell_of
    earlier d e b h q =
        let x = ends d (omega arith) in
        let y = ends e h in
        let u = inside (to l d) x.1 in
        let v = inside (to l e) y.1 in
        let i = sym (row_of k _ _ u) ∙ ap (λ (c : ℕ). c / k) q ∙ row_of k _ _ v in
        let j = sym (column_of k _ _ u) ∙ ap (λ (c : ℕ). c % k) q ∙ column_of k _ _ v in
        let from-same = sym (apart _ _ x.0 y.0 i) in
        let to_same = sym (apart _ _ x.1 y.1 j) in
        false≢true (sym (free_other l e d (new e h) b) ∙ pair_of l e (from l d) (to l d) from-same to_same)

    cell_apart : (d e : ℕ) → d < count → e < count → cell_of d ≡ cell_of e → d ≡ e
    cell_apart d e a b q = elim (dec_lt d e) [
      | yes h ↦ absurd (earlier d e h b q)
      | no f ↦ elim (dec_lt e d) [
        | yes h ↦ absurd (earlier e d h a (sym q))
        | no g ↦ omega arith
      ]
    ]

    pub different_most : count ≤ k * k
    different_most = elim (dec_lt (k * k) count) [
      | yes h ↦
          let x = onto (k * k + 1) cell_of
          (λ e b. let c = cell_below e (omega arith) in omega arith)
          (λ d e a b. cell_apart d e (omega arith) (omega arith))
          (k * k) (omega arith) in
          absurd (let never : ⊥ = omega (arith, x.1, x.2, cell_below x.0 (omega (arith, x.1))) in never)
      | no f ↦ omega arith
    ]
