-- So many ticks are there.
use Rattle.text.specs.Text.{Writes}
use Rattle.machine.specs.Run.{ticks}
use Rattle.report.specs.Lines.{call_lines}
use Rattle.report.proofs.step_section.tick_calls.Given as goal

abbrev pub invariant-loop : goal.invariant-loop
invariant-loop l = Writes l.fn.text (call_lines (ticks l.counter)) l.text
