use Rattle.std.proofs.Common.{rules}
use Rattle.report.specs.Lines.{route_line}
use Rattle.text.proofs.WriterLaws.{writes_then}
use Rattle.report.proofs.lines.route_line.Goals as goal

pub returns : goal.returns
unfolding route_line
returns c = record { line = search (rules, writes_then) depth 12 }
