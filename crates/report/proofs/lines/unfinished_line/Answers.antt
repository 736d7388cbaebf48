use Rattle.std.proofs.Common.{rules}
use Rattle.report.specs.Lines.{unfinished_line}
use Rattle.text.proofs.WriterLaws.{writes_then}
use Rattle.report.proofs.lines.unfinished_line.Goals as goal

pub returns : goal.returns
unfolding unfinished_line
returns c = record { line = search (rules, writes_then) depth 14 }
