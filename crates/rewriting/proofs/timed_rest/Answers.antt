-- The three parts that are written make what follows the links: `appended_rest`.
use Rattle.rewriting.proofs.RewritingLaws.{appended_rest}
use Rattle.rewriting.proofs.timed_rest.Goals as goal

pub returns : goal.returns
returns c =
    let from = c.requires.from_value in
    appended_rest c.args.file.now c.args.from c.args.changes_end from.0 from.1 c.requires.file_in_bounds
    c.append.ensures.appended c.append-2.ensures.appended c.append-3.ensures.appended
