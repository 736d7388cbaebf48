use Rattle.std.proofs.Common.{rules, tests, arith, ◌*◌, ◌∙◌, ◌≡◌, ℕ, length, take}
use Rattle.std.proofs.lemmas.Iterator.{YieldsList-from_slice}
use Rattle.std.proofs.lemmas.Iterator.Consumers.{YieldsList-from_filter, YieldsList-from_enumerate}
use Rattle.std.proofs.lemmas.Iterator.Consumers.{count_from_yields_List}
use Rattle.area_file.specs.AreaFile.{is_listed}
use Rattle.area_file.proofs.LinkLaws.{listed_most}
use Rattle.area_file.proofs.LineLaws.{listed_cells, count_listed}
use Rattle.area_file.proofs.count_links.Goals as goal

pub returns : goal.returns
returns c =
    let n = c.args.n in
    let m = c.args.metrics.now in
    let counted : c.count.result ≡ length (listed_cells n (take (64 * n) m)) =
    count_from_yields_List c.filter.result c.count.result c.count.ensures.ran
    (YieldsList-from_filter _ (λ (p : ℕ × ℕ). is_listed n p.0 p.1)
    (YieldsList-from_enumerate (YieldsList-from_slice (take (64 * n) m) (cc)) (cc))
    c.filter.ensures.closure (λ x b q k. search (rules, tests))) in
    let is = counted ∙ count_listed n m (64 * n) (omega arith) in
    (is, omega (arith, is, listed_most n m (64 * n)))
