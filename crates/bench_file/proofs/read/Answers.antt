-- The links of an accepted file have their ends among the routers.
use Rattle.std.proofs.Common.{arith, sym}
use Rattle.bench_file.specs.Read.{contents, contents_by}
use Rattle.bench_file.proofs.Reading.{lent_inside}
use Rattle.bench_file.proofs.read.Goals as goal

pub put-requires-clause-in_table : goal.put-requires-clause-in_table
unfolding contents contents_by
put-requires-clause-in_table c =
    let told = c.in_ok-contents.ensures in
    let inside = lent_inside c.args.file.now (sym told.answer) in
    λ e h. grind (arith, inside e, told)
