use Rattle.report.specs.Lines.{hold_text}
use Rattle.report.proofs.lines.hold_text.Goals as goal

pub returns-in-Holding : goal.returns-in-Holding
unfolding hold_text
returns-in-Holding c = record { text = rw c.in-Holding.is c.field.ensures.appended }
