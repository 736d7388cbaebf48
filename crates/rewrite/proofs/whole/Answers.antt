-- The output buffer has room for all that is written (written_room), and what was read of the input decides it
-- (written_first).
use Rattle.std.proofs.Common.{arith, length}
use Rattle.rewriting.specs.Rewriting.{written}
use Rattle.rewriting.proofs.RewritingLaws.{written_first, written_room}
use Rattle.streams.proofs.StreamLaws.{whole_text_lem}
use Rattle.rewrite.proofs.whole.Goals as goal

pub returns-clause-bytes : goal.returns-clause-bytes
returns-clause-bytes c =
    let a = c.args in
    let file = a.file.now in
    (whole_text_lem written file a.count c.rewrite.ensures.bytes
    (λ f. omega (arith, written_room f))
    (λ f. written_first f (length file) (omega arith))).1
