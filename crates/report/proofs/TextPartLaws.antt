-- Laws of whole texts as they are appended: a text by its parts, the refusal or all lines, and the text of a file by
-- what `prepare` gives. There k is the refusal, r the record, s says where the steps are, and u are the tables, each by
-- an equation on the file.
--     FullTables                                 the tables that are printed have all cells
--     lines_of                                   the lines of each text, by its name
--     rehearsal_appended, unfinished_appended    those of the rehearsal, and of what is left after it
--     refused_printed, lines_printed             the refusal, or all lines
--     same_text, text_printed                    the text by what `prepare` gives
use Rattle.std.specs.Prelude.{ℕ, ◌≡◌, ◌≢◌, List, ◌++◌, Result, Ok}
use Rattle.std.proofs.Common.{sym, subst, ◌∙◌, eq-eqb, ne_eqb}
use Rattle.std.proofs.Math.Decide.{ℕ_discrete}
use Rattle.area.specs.declared.refusal.Refusal.{Refusal}
use Rattle.paths.specs.Paths.{PathTables}
use Rattle.plan.specs.declared.Record.{Record}
use Rattle.plan.specs.Plan.{Tables}
use Rattle.machine.specs.Run.{run, replies, calls_of}
use Rattle.needs.specs.Needs.{needs, missing}
use Rattle.bench_file.specs.declared.Section.{Section}
use Rattle.bench_file.specs.Read.{contents_of}
use Rattle.text.specs.Text.{Appended, word, line, refused_line}
use Rattle.text.proofs.TextLaws.{appended_then, refused_is}
use Rattle.prepare.specs.declared.Start.{Start}
use Rattle.prepare.specs.Bench.{refusal, record_at, tables_at}
use Rattle.report.specs.Lines.{router_lines, step_lines, rehearsal_lines, unfinished_lines, unfinished_after}
use Rattle.report.specs.Report.{unless_refused, text_of}
use Rattle.report.specs.declared.Text.{Text}
use Rattle.report.specs.Parts.{step_bytes, Full, lines_by}
use Rattle.report.proofs.ReportLaws.{text_refused, text_by_answer}

-- the tables that are printed have all cells
abbrev FullTables : (u : Tables) → Type 0
FullTables u = Full u.old u.new

abbrev lines_in : (text : Text) (r : Record) (bytes : List ℕ) (u : Tables) → List ℕ
lines_in text r bytes u = lines_by text r bytes u.old u.new

pub lines_of :
    {text name : Text} (r : Record) (bytes : List ℕ) (before after : PathTables) {o p : List ℕ} {a : ℕ}
    → text ≡ name
    → Appended o 0 (lines_by name r bytes before after) p a
    → Appended o 0 (lines_by text r bytes before after) p a
lines_of r bytes before after {o} {p} {a} is =
    subst (λ (x : Text). Appended o 0 (lines_by x r bytes before after) p a) (sym is)

pub rehearsal_appended :
    (r : Record) (bytes : List ℕ) (count : ℕ) {o p q s l : List ℕ} {a b c d : ℕ}
    → count ≡ needs r
    → Appended o 0 (router_lines r r.n) p a
    → Appended p a (line (word "needs ") count) q b
    → Appended q b (step_lines 1 (replies r (calls_of bytes))) s c
    → Appended s c (word "end\n") l d
    → Appended o 0 (rehearsal_lines r bytes) l d
rehearsal_appended r bytes count is u v w x = appended_then u (appended_then (rw is at v) (appended_then w x))

pub unfinished_appended :
    (r : Record) (bytes : List ℕ) (last : Record) (count : ℕ) {o p q : List ℕ} {a b : ℕ}
    → last ≡ run r (calls_of bytes)
    → count ≡ missing last
    → Appended o 0 (unfinished_lines last r.n) p a
    → Appended p a (line (word "missing ") count) q b
    → Appended o 0 (unfinished_after r bytes) q b
unfinished_appended r bytes last count {o} {p} {q} {a} {b} ran is u v =
    subst (λ (x : Record). Appended o 0 (unfinished_lines x r.n ++ line (word "missing ") (missing x)) q b) ran
    (appended_then u (rw is at v))

-- ---- the refusal, or all lines
module _ (k : ℕ) (l : List ℕ) {o p : List ℕ} {a b : ℕ} where
  pub refused_printed : k ≢ 0 → Appended o a (refused_line k) p b → Appended o a (unless_refused k l) p b
  refused_printed g x = rw (ne_eqb k 0 g) x

  pub lines_printed : k ≡ 0 → Appended o a l p b → Appended o a (unless_refused k l) p b
  lines_printed z x = rw (eq-eqb k 0 z) x

-- ---- by what `prepare` gives
module _ (f m : List ℕ) (t : Tables) where
  module _
      (k : ℕ) (told : k ≡ refusal f m t)
      (r : Record) (is : r ≡ record_at f m t)
      (s : Section) (placed : s ≡ (contents_of f m).steps)
      (u : Tables) (filled : u ≡ tables_at f m t)
    where
      same_text : (text : Text) → unless_refused k (lines_in text r (step_bytes f s) u) ≡ text_of text f m t
      same_text text = go (ℕ_discrete (refusal f m t) 0)
        where
          start : Result Start Refusal
          start = Ok (record { «record» = r; steps = s })

          go :
              Dec (refusal f m t ≡ 0)
              → unless_refused k (lines_in text r (step_bytes f s) u) ≡ text_of text f m t
          go (yes z) = rw (eq-eqb k 0 (told ∙ z)) (text_by_answer f m t u filled text start (sym z) is placed)
          go (no g) =
              rw (told, ne_eqb (refusal f m t) 0 g) (refused_is (refusal f m t) ∙ sym (text_refused f m t text g))

      pub text_printed :
          (text : Text) {o p : List ℕ} {a : ℕ}
          → Appended o 0 (unless_refused k (lines_in text r (step_bytes f s) u)) p a
          → Appended o 0 (text_of text f m t) p a
      text_printed text {o} {p} {a} = subst (λ (l : List ℕ). Appended o 0 l p a) (same_text text)
