-- The output buffer has room for the whole text (text_room), and what was read of the input decides it (text_first).
use Rattle.std.proofs.Common.{arith, length}
use Rattle.plan.specs.Plan.{tables_held}
use Rattle.report.specs.Report.{text_of}
use Rattle.report.proofs.RoomLaws.{text_room}
use Rattle.report.proofs.FirstBytesLaws.{text_first}
use Rattle.streams.proofs.StreamLaws.{whole_text_lem}
use Rattle.printing.proofs.whole.Goals as goal

pub returns : goal.returns
returns c =
    let a = c.args in
    let file = a.file.now in
    let m = a.before.now in
    let t = tables_held a.metrics.now a.old.now a.new.now in
    let printed =
    whole_text_lem (λ f. text_of a.text f m t) file a.count c.print.ensures.text
    (λ f. omega (arith, text_room f m t a.text))
    (λ f. text_first f m t (length file) (omega arith) a.text) in record {
      counted = printed.0;
      text = printed.1;
      printed = record {
        count = a.count;
        before = m;
        tables = t;
        read = c.requires.prefix_len;
        sized = c.requires.sized;
        within = printed.0;
        whole = printed.1;
      };
    }
