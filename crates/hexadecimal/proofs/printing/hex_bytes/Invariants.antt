-- The digits of the bytes before this one are written.
use Rattle.std.proofs.Common.{take}
use Rattle.text.specs.Text.{Writes}
use Rattle.hexadecimal.specs.Digits.{hexed}
use Rattle.hexadecimal.proofs.printing.hex_bytes.Given as goal

abbrev pub invariant-loop-x : goal.invariant-loop-x
invariant-loop-x l = Writes l.fn.out (hexed (take l.x-index l.bytes)) l.out
