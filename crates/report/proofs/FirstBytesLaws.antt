-- The first bytes of an input decide all that is printed for it, if they are more than the largest file has: 33,089
-- bytes are enough for every program (01, "The rehearsal").
-- Why: a file that is not refused has no byte beyond them (first_all); of one that is refused the number of the refusal
-- is all that is printed, and it is the same for them (refusal_first).
use Rattle.std.specs.Prelude.{ℕ, ◌<◌, ◌≡◌, List, take}
use Rattle.std.proofs.Common.{sym, ap, ◌∙◌}
use Rattle.std.proofs.Math.Decide.{ℕ_discrete}
use Rattle.plan.specs.Plan.{Tables}
use Rattle.bench_file.specs.Sections.{largest}
use Rattle.text.specs.Text.{word, line}
use Rattle.prepare.specs.Bench.{refusal}
use Rattle.prepare.proofs.BenchLaws.{first_all, refusal_first}
use Rattle.report.specs.declared.Text.{Text}
use Rattle.report.specs.Report.{text_of}
use Rattle.report.proofs.ReportLaws.{text_refused}

module _ (f m : List ℕ) (t : Tables) (k : ℕ) (more : largest < k) (text : Text) where
  same : refusal (take k f) m t ≡ refusal f m t
  same = refusal_first f m t k more

  pub text_first : text_of text (take k f) m t ≡ text_of text f m t
  text_first = by_refusal (ℕ_discrete (refusal f m t) 0)
    where
      by_refusal : Dec (refusal f m t ≡ 0) → text_of text (take k f) m t ≡ text_of text f m t
      by_refusal (yes z) = ap (λ (g : List ℕ). text_of text g m t) (first_all f m t z k more)
      by_refusal (no g) =
          text_refused (take k f) m t text (λ z. g (sym same ∙ z))
          ∙ ap (line (word "refused ")) same
          ∙ sym (text_refused f m t text g)
