-- The three parts that are written make the rewritten file: `appended_file`.
use Rattle.std.proofs.Common.{arith}
use Rattle.rewriting.proofs.RewritingLaws.{links_counted, links_whole, appended_file}
use Rattle.rewriting.proofs.whole.Goals as goal

pub count_live-requires : goal.count_live-requires
count_live-requires c = links_whole c.args.file.now c.args.found.n c.args.found.links _ c.requires

pub write_head-requires : goal.write_head-requires
write_head-requires c =
    let counted = links_counted c.args.file.now c.args.found.n c.args.found.links _ c.requires in
    (omega (arith, c.requires.routers_most), omega (arith, counted, c.requires.count_most, c.count_live.ensures.1))

pub live_links-requires : goal.live_links-requires
live_links-requires c = links_whole c.args.file.now c.args.found.n c.args.found.links _ c.requires

pub returns : goal.returns
returns c =
    appended_file c.args.file.now c.args.found.n c.args.found.links _ c.requires c.count_live.result
    c.count_live.ensures.0 c.write_head.ensures c.live_links.ensures c.timed_rest.ensures
