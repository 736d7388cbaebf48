-- What is left of the list, with the row as it is, gives what the whole list gives with the row at first.
use Rattle.tlv.specs.Items.{items_at}
use Rattle.isis.proofs.LowerLaws.{Lowering}
use Rattle.isis.proofs.lists.fill_row.Given as goal

abbrev pub invariant-loop-x : goal.invariant-loop-x
invariant-loop-x l = record {
  can : (goal.iterator-loop-x).can_next l.x-iterator;
  ends : (goal.iterator-loop-x).is_finite l.x-iterator;
  lowering : Lowering l.identities l.i l.list l.fn.row (items_at l.x-iterator.bytes.now l.x-iterator.at) l.row;
}
