use Rattle.std.proofs.Common.{arith}
use Rattle.std.proofs.lemmas.Grind.{common_steps}
use Rattle.bench_file.specs.Faults.{file_refusal, most_links}
use Rattle.bench_file.specs.Read.{contents_by}
use Rattle.bench_file.proofs.examine.Goals as goal

pub returns-clause-contents : goal.returns-clause-contents
unfolding file_refusal most_links contents_by
returns-clause-contents c = grind (arith, common_steps)
