-- The loop that puts one link after another into the metric table.
--     Linked l k t     t is the table of the first k links of l
--     linked_none      it holds before the first link
--     linked_more      and of one link more, when that is put in: its cell is the link's, every other stays
--     linked_all       then t is the definition's table
use Prim.Native.Nat.{ℕ, suc, ◌+◌, ◌*◌, ◌<◌}
use mathlib.Core.Path.{◌≡◌, sym, ap, subst, ◌∙◌}
use mathlib.Core.List.{List, []}
use native.Mathlib.Numerals.{add-one}
use native.Mathlib.Omega.{arith}
use lib.ListN.{length, set, length-set}
use Rattle.area.specs.Limits.{width, unused}
use Rattle.area.specs.Tests.{pick}
use Rattle.area.specs.Tables.{cell}
use Rattle.area.proofs.TableLaws.{length_tabulate, cell_tabulate, is_tabulate}
use Rattle.entries.specs.declared.Entry.{Entry}
use Rattle.entries.specs.Entries.{entry_of, from, to, metric, is_for_pair, listed_metric}
use Rattle.entries.proofs.EntryLaws.{given_start, given_next, cell_entered}
use Rattle.bench_file.specs.Read.{linked}

pub record Linked (l : List ℕ) (k : ℕ) (t : List ℕ) : Type 0 where
  pub size : length t ≡ width * width
  pub cells : (i j : ℕ) → i < width → j < width → cell width t i j ≡ listed_metric l k i j unused

pub linked_none : (l t : List ℕ) → t ≡ linked [] 0 → Linked l 0 t
unfolding linked
linked_none l t e = record {
  size = ap length e ∙ length_tabulate width (λ i j. listed_metric [] 0 i j unused);
  cells = λ i j a b.
      ap (λ (x : List ℕ). cell width x i j) e
      ∙ cell_tabulate width (λ i j. listed_metric [] 0 i j unused) i j a b
      ∙ given_start [] i j unused
      ∙ sym (given_start l i j unused);
}

module _ (l : List ℕ) (k : ℕ) (t : List ℕ) (done : Linked l k t) (a : from l k < width) (b : to l k < width) where
  put : Linked l (suc k) (set t (width * from l k + to l k) (metric l k))
  put = record {
    size = simp length-set done.size;
    cells = λ i j c d.
        cell_entered l k t done.size a b i j c d
        ∙ ap (pick (is_for_pair l k i j) (metric l k)) (done.cells i j c d)
        ∙ sym (given_next l k i j unused);
  }

  pub linked_more : (x : Entry) → x ≡ entry_of l k → Linked l (k + 1) (set t (width * x.from + x.to) x.metric)
  linked_more x is =
      rw add-one
      (subst (λ (y : Entry). Linked l (suc k) (set t (width * y.from + y.to) y.metric)) (sym is) put)

pub linked_all : (l : List ℕ) (k : ℕ) (t : List ℕ) → Linked l k t → t ≡ linked l k
unfolding linked
linked_all l k t done =
    is_tabulate width (λ i j. listed_metric l k i j unused) t (omega arith) done.size done.cells
