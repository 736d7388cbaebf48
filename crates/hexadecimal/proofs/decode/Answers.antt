--     returns-then-text-gt-MOST        the text is too long
--     returns-in-Bad, returns-in-Odd   the byte at place `at` is a fault
--     loop-at-preserved                it ends a byte, or neither
--     returns-in-High, returns         the text ends: with a lone digit, or well
use Rattle.std.proofs.Common.{arith, rules}
use Rattle.text.proofs.WriterLaws.{whole_text}
use Rattle.hexadecimal.proofs.Decoding.{Quiet, decoded_none, decoded_byte, decoded_quiet, decoded_bad, decoded_odd}
use Rattle.hexadecimal.proofs.Decoding.{decoded_long, decoded_all, decoded_lone, some_text}
use Rattle.hexadecimal.proofs.decode.Goals as goal
use Rattle.hexadecimal.proofs.decode.Goals.{in-Byte, in_default}

pub returns-then-text-gt-MOST-clause-err : goal.returns-then-text-gt-MOST-clause-err
returns-then-text-gt-MOST-clause-err c = (decoded_long c.args.text.now c.if-text-gt-MOST.true).0

pub returns-then-text-gt-MOST-clause-fault : goal.returns-then-text-gt-MOST-clause-fault
returns-then-text-gt-MOST-clause-fault c = (decoded_long c.args.text.now c.if-text-gt-MOST.true).1

pub loop-at-init : goal.loop-at-init
loop-at-init c = decoded_none c.args.text.now c.new-bytes.result c.if-text-gt-MOST.false

pub returns-in-Bad-clause-err : goal.returns-in-Bad-clause-err
returns-in-Bad-clause-err c =
    (decoded_bad c.loop-at.invariant c.loop-at-test.true c.step-reading.result c.step-reading.ensures c.in-Bad.is).0

pub returns-in-Bad-clause-fault : goal.returns-in-Bad-clause-fault
returns-in-Bad-clause-fault c =
    (decoded_bad c.loop-at.invariant c.loop-at-test.true c.step-reading.result c.step-reading.ensures c.in-Bad.is).1

pub returns-in-Odd-clause-err : goal.returns-in-Odd-clause-err
returns-in-Odd-clause-err c =
    (decoded_odd c.loop-at.invariant c.loop-at-test.true c.step-reading.result c.step-reading.ensures c.in-Odd.is).0

pub returns-in-Odd-clause-fault : goal.returns-in-Odd-clause-fault
returns-in-Odd-clause-fault c =
    (decoded_odd c.loop-at.invariant c.loop-at-test.true c.step-reading.result c.step-reading.ensures c.in-Odd.is).1

pub loop-at-preserved : goal.loop-at-preserved
loop-at-preserved c =
    let so_far = c.loop-at.invariant in
    let step = c.step-reading in
    elim c.match-reading.branch [
      | in-Byte w ↦
          rw (w.bytes-is, w.reading-is)
          (decoded_byte so_far c.loop-at-test.true step.result step.ensures w.in-Byte.x w.in-Byte.is
          w.append.ensures.appended)
      | in_default w ↦
          let quiet : Quiet step.result = record {
            not_byte = w.in_default.not-Byte;
            not_bad = w.in_default.not-Bad;
            not_odd = w.in_default.not-Odd;
          } in
          rw (w.bytes-is, w.reading-is)
          (decoded_quiet so_far c.loop-at-test.true step.result step.ensures quiet)
    ]

pub overflow_sub-result-in-High : goal.overflow_sub-result-in-High
overflow_sub-result-in-High c = some_text c.loop-at.invariant (omega arith) c.in-High.field-0 c.in-High.is

pub returns-in-High-clause-err : goal.returns-in-High-clause-err
returns-in-High-clause-err c = (decoded_lone c.loop-at.invariant (omega arith) c.in-High.field-0 c.in-High.is).0

pub returns-in-High-clause-fault : goal.returns-in-High-clause-fault
returns-in-High-clause-fault c = (decoded_lone c.loop-at.invariant (omega arith) c.in-High.field-0 c.in-High.is).1

pub returns-clause-ok : goal.returns-clause-ok
returns-clause-ok c =
    let all = decoded_all c.loop-at.invariant (omega arith) c.in_default-reading.not-High in
    let whole = whole_text c.new-bytes.ensures.empty all.0 in
    search (rules, whole)

pub returns-clause-fault : goal.returns-clause-fault
returns-clause-fault c = (decoded_all c.loop-at.invariant (omega arith) c.in_default-reading.not-High).1
