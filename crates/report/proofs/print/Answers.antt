use Rattle.std.proofs.Common.{rules}
use Rattle.text.proofs.WriterLaws.{whole_text}
use Rattle.report.proofs.ReportLaws.{ready, text_by_answer}
use Rattle.report.proofs.print.Goals as goal

pub printed-requires : goal.printed-requires
printed-requires c =
    let p = c.prepare-start in
    ready c.args.file.now c.args.before.now _ _ p.ensures.tables p.result p.ensures.refusal p.ensures.plan
    p.ensures.steps

pub returns-clause-text : goal.returns-clause-text
returns-clause-text c =
    let a = c.args in
    let p = c.prepare-start in
    let e =
    text_by_answer a.file.now a.before.now _ _ p.ensures.tables a.text p.result p.ensures.refusal p.ensures.plan
    p.ensures.steps in
    let t = rw e at (whole_text c.new-lines.ensures.empty c.printed.ensures.text) in search rules
