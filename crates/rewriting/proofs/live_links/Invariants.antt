-- The live links before e are written.
use Rattle.text.specs.Text.{Writes}
use Rattle.rewriting.specs.Live.{live}
use Rattle.rewriting.proofs.live_links.Given as goal

abbrev pub invariant-loop-e : goal.invariant-loop-e
invariant-loop-e l = Writes l.fn.out (live l.links l.e) l.out
