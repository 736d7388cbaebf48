use Rattle.report.specs.Lines.{call_line}
use Rattle.text.proofs.WriterLaws.{writes_then}
use Rattle.report.proofs.hex_lines.call_line.Goals as goal

pub returns : goal.returns
unfolding call_line
returns c = record {
  line =
      writes_then (rw c.number.ensures.number at c.hex_byte.ensures.text) (writes_then c.append.ensures.appended
      (writes_then c.hex_byte-2.ensures.text (writes_then c.append-2.ensures.appended
      (writes_then c.hex_byte-3.ensures.text c.append-3.ensures.appended))));
}
