use Rattle.std.proofs.Common.{rules}
use Rattle.report.specs.Lines.{turn_line}
use Rattle.text.proofs.WriterLaws.{writes_then}
use Rattle.report.proofs.lines.turn_line.Goals as goal

pub returns : goal.returns
unfolding turn_line
returns c = record { line = search (rules, writes_then) depth 12 }
