-- The bytes before place `at` are decoded, and no fault was among them (proofs/Decoding.antt).
use Rattle.hexadecimal.proofs.Decoding.{Decoded}
use Rattle.hexadecimal.proofs.decode.Given as goal

abbrev pub invariant-loop-at : goal.invariant-loop-at
invariant-loop-at l = Decoded l.text l.initial.bytes l.bytes l.at l.reading
