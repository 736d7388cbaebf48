-- The lists before list i have no fault, their rows are those of their lists, the others have no links yet, and `rest`
-- begins with the length of list i.
use Rattle.std.proofs.Common.{◌≡◌, ℕ, ◌≤◌, ◌<◌, length, drop}
use Rattle.area.specs.Limits.{width, unused}
use Rattle.area.proofs.RowLaws.{RowsOver}
use Rattle.isis.specs.Lists.{length_at, list_refusal, listed_to}
use Rattle.isis.proofs.lists.fill.Given as goal

abbrev pub invariant-loop-i : goal.invariant-loop-i
invariant-loop-i l = record {
  place : l.rest ≡ drop (length_at l.lists l.i) l.lists;
  inside : length_at l.lists l.i ≤ length l.lists;
  none : (k : ℕ) → k < l.i → list_refusal l.identities l.lists k ≡ 0;
  rows : RowsOver width (listed_to l.identities l.lists) (λ a b. unused) l.i l.table;
}
