-- What goes over with a refusal: zeros in the place of what a file says of itself, and the record of a refusal.
--     zeros_read       of Read
--     refused          the laws of Read and of Plan
use Rattle.std.specs.Prelude.{ℕ, ◌≡◌, ◌≢◌, List, [], ◌∷◌}
use Rattle.std.proofs.Common.{ap, ◌∙◌}
use Rattle.area.proofs.RefusalLaws.{refusal_positive}
use Rattle.plan.proofs.PlanLaws.{planned_false, record_refused}
use Rattle.bench_file.specs.Read.{read_refusal, contents_of}
use Rattle.bench_file.proofs.ReadLaws.{contents_refused}
use Rattle.bench_file.proofs.FileLaws.{no_contents_zeros}
use Rattle.exports.specs.Exports.{numbers}

pub zeros_read :
    (f t : List ℕ)
    → read_refusal f t ≢ 0
    → numbers (contents_of f t) ≡ 0 ∷ 0 ∷ 0 ∷ 0 ∷ 0 ∷ 0 ∷ 0 ∷ 0 ∷ []
zeros_read f t g = ap numbers (contents_refused f t g ∙ no_contents_zeros)

pub ruleset refused = (refusal_positive, zeros_read, planned_false, record_refused)
