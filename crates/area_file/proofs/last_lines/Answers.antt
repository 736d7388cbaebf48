-- The lines, one after another.
use Rattle.text.proofs.WriterLaws.{writes_then}
use Rattle.area_file.specs.AreaFile.{last_lines}
use Rattle.area_file.proofs.last_lines.Goals as goal

pub returns : goal.returns
unfolding last_lines
returns c = writes_then c.words_line.ensures (writes_then c.words_line-2.ensures c.words_line-3.ensures)
