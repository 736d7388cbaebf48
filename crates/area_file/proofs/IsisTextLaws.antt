-- Laws of the text of link-state data that is appended, and of the metric table that is filled, case by case.
--     table_long, long_appended                where the lists are too long
--     metrics_is, table_filled, answer_is      the table and the answer, by how many lists were counted
--     refused_appended, accepted_appended      the text where the lists are refused, and where they are accepted
use Rattle.std.specs.Prelude.{ℕ, ◌≤◌, ◌<◌, ◌≡◌, Bool, true, false, not, ◌≢◌, List, eqb, length}
use Rattle.std.proofs.Math.Path.{refl, ap₂}
use Rattle.std.proofs.Common.{sym, ap, ◌∙◌, subst}
use borrow.Author.Tests.{lt-ltb, eqb-true, eqb-false, not-true, not-false}
use Rattle.text.specs.Text.{Appended, word, refused_line}
use Rattle.isis.specs.Lists.{list_count}
use Rattle.isis.specs.Isis.{isis_refusal, isis_metrics}
use Rattle.area_file.specs.AreaFile.{area_text}
use Rattle.area_file.specs.FromIsis.{most_bytes, answer_of, table_of, text_of}
use Rattle.area_file.proofs.FromIsisLaws.{text_long, text_refused, text_accepted, table_short}

module _ (t d m : List ℕ) where
  pub table_long : most_bytes < length d → m ≡ table_of t d m
  table_long h = rw (lt-ltb most_bytes (length d) h) refl

pub long_appended :
    (t d m : List ℕ) {o q : List ℕ} {r : ℕ}
    → most_bytes < length d
    → Appended o 0 (word "too long\n") q r
    → Appended o 0 (text_of t d m) q r
long_appended t d m {o} {q} {r} h x = subst (λ (w : List ℕ). Appended o 0 w q r) (text_long t d m h) x

-- n is how many lists were counted, k the number of the answer, and p the table that was filled
module _ (t d m : List ℕ) (h : length d ≤ most_bytes) (n : ℕ) (counted : n ≡ list_count d) where
  module _ (p : List ℕ) (filled : p ≡ isis_metrics n t d m) where
    metrics_is : p ≡ isis_metrics (list_count d) t d m
    metrics_is = filled ∙ ap (λ (i : ℕ). isis_metrics i t d m) counted

    pub table_filled : p ≡ table_of t d m
    table_filled = metrics_is ∙ table_short t d m h

  module _ (k : ℕ) (told : k ≡ isis_refusal n t d m) (ok : Bool) (good : ok ≡ eqb k 0) where
    answer_is : k ≡ answer_of t d m
    answer_is = told ∙ ap (λ (i : ℕ). isis_refusal i t d m) counted

    pub refused_appended :
        not ok ≡ true
        → (j : ℕ)
        → j ≡ k
        → {o q : List ℕ} {r : ℕ}
        → Appended o 0 (refused_line j) q r
        → Appended o 0 (text_of t d m) q r
    refused_appended f j e {o} {q} {r} x =
        let some : answer_of t d m ≢ 0
        = λ z. eqb-false k 0 (sym good ∙ not-true ok f) (answer_is ∙ z) in
        let line = ap refused_line (e ∙ answer_is) ∙ text_refused t d m h some in
        subst (λ (w : List ℕ). Appended o 0 w q r) line x

    pub accepted_appended :
        not ok ≡ false
        → (p : List ℕ)
        → p ≡ isis_metrics n t d m
        → {o q : List ℕ} {r : ℕ}
        → Appended o 0 (area_text n p) q r
        → Appended o 0 (text_of t d m) q r
    accepted_appended f p filled {o} {q} {r} x =
        let none = sym answer_is ∙ eqb-true k 0 (sym good ∙ not-false ok f) in
        let text = ap₂ area_text counted (metrics_is p filled) ∙ text_accepted t d m h none in
        subst (λ (w : List ℕ). Appended o 0 w q r) text x
