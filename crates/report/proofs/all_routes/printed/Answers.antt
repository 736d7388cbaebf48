use Rattle.text.proofs.WriterLaws.{writes_then}
use Rattle.report.proofs.all_routes.printed.Goals as goal

pub returns : goal.returns
returns c = record { lines = writes_then c.append.ensures.appended c.route_lines.ensures.lines }
