-- The tables of an input that is planned, put together from what Paths leaves for the old metrics and for the new ones.
-- Paths refuses neither: the old metrics were judged, and the new ones are old ones or those of changes, which three
-- bytes hold and of which none is 0.
use Rattle.std.proofs.Common.{ℕ, ◌<◌, ◌≡◌, refl, ap, ◌∙◌, List, get_or}
use Rattle.entries.proofs.EntryLaws.{metric_fits}
use Rattle.paths.specs.Paths.{PathTables, paths_of}
use Rattle.paths.specs.Ready.{SizedPaths}
use Rattle.paths.proofs.PathsLaws.{ready_accepted, tables_filled}
use Rattle.plan.specs.NewMetrics.{new_metrics}
use Rattle.plan.specs.Plan.{filled}
use Rattle.plan.proofs.MetricLaws.{new_ready}
use Rattle.plan.specs.Planned.{Plan}

pub filled_is :
    (n : ℕ) (m l : List ℕ)
    → Plan n m l
    → ((k : ℕ) → get_or l k 0 < 256)
    → (old new : PathTables)
    → SizedPaths old
    → SizedPaths new
    → (metrics : List ℕ) (old-left new-left : PathTables)
    → metrics ≡ new_metrics n m l
    → old-left ≡ paths_of n m old
    → new-left ≡ paths_of n metrics new
    → record { metrics = metrics; old = old-left; new = new-left } ≡ filled n m l
unfolding filled
filled_is n m l p bytes old new old-size new_size metrics old-left new-left applied a b =
    let ready = new_ready n m l p.ready (λ e h. (p.sound e h).some) (λ e h. metric_fits l bytes e) in
    let old_is = a ∙ tables_filled n m old (ready_accepted n m old p.ready old-size) in
    let New-is =
    b
    ∙ ap (λ (x : List ℕ). paths_of n x new) applied
    ∙ tables_filled n (new_metrics n m l) new (ready_accepted n (new_metrics n m l) new ready new_size) in
    rw (applied, old_is, New-is) refl
