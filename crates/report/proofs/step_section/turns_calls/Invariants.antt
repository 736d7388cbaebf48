-- The turns of the routers before this one are there.
use Rattle.std.proofs.Common.{get_or}
use Rattle.text.specs.Text.{Writes}
use Rattle.sheet.specs.Follow.{each, turn}
use Rattle.report.specs.Lines.{call_lines}
use Rattle.report.proofs.step_section.turns_calls.Given as goal

abbrev pub invariant-loop-router : goal.invariant-loop-router
invariant-loop-router l =
    Writes l.fn.text (call_lines (each l.router-index (λ k. turn l.fresh (get_or l.places k 0)))) l.text
