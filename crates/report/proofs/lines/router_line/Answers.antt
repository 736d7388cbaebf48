use Rattle.std.proofs.Common.{rules}
use Rattle.report.specs.Lines.{router_line}
use Rattle.text.proofs.WriterLaws.{writes_then}
use Rattle.report.proofs.lines.router_line.Goals as goal

pub returns : goal.returns
unfolding router_line
returns c = record { line = search (rules, writes_then) }
