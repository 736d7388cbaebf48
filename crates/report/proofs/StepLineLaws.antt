-- Laws of the lines of the steps as they are appended, with the calls by their place in the bytes. The lines are
-- defined from their first on, so a loop over the calls keeps what is left: with the lines of the calls that are left,
-- the text makes all lines.
--     Left, left_none, left_more, left_all     before the first step, between two, at the end
use Rattle.std.specs.Prelude.{ℕ, ◌+◌, ◌<◌, ◌≤◌, ◌≡◌, length, get_or, drop}
use Rattle.std.proofs.Math.Path.{refl, sym, ap, subst}
use Rattle.std.proofs.Common.{◌∙◌}
use mathlib.Core.List.{List, [], ◌++◌, append-nil, append_assoc}
use Rattle.plan.specs.declared.Record.{Record}
use Rattle.machine.specs.Answers.{Reply, Outcome}
use Rattle.machine.specs.Machine.{step_of}
use Rattle.machine.specs.Run.{replies, calls_of}
use Rattle.machine.proofs.CallLaws.{replies_none, replies_next}
use Rattle.text.specs.Text.{Appended}
use Rattle.text.proofs.TextLaws.{appended_none, appended_then}
use Rattle.report.specs.Lines.{step_line, step_lines}

-- Between two steps: `printed` was appended, and with the lines of the calls that are left, numbered from k + 1 on, it
-- makes all lines. r is the record, and the calls that are left begin at `place`; the text ends at b in p.
pub record Left (o : List ℕ) (a : ℕ) (all : List ℕ) (r : Record) (bytes : List ℕ) (place k : ℕ) (p : List ℕ) (b : ℕ)
    : Type 0 where
  pub printed : List ℕ
  pub appended : Appended o a printed p b
  pub whole : printed ++ step_lines (k + 1) (replies r (calls_of (drop place bytes))) ≡ all

module _ (o : List ℕ) (a : ℕ) (first : Record) (bytes : List ℕ) where
  abbrev pub AllSteps : List ℕ
  AllSteps = step_lines 1 (replies first (calls_of bytes))

  pub left_none : a ≤ length o → Left o a AllSteps first bytes 0 0 o a
  left_none h = record { printed = []; appended = appended_none o a h; whole = refl }

  module _ (r : Record) (place k : ℕ) (p : List ℕ) (b : ℕ) (left : Left o a AllSteps r bytes place k p b) where
    -- what was printed, and the lines of these answers
    abbrev With : List Reply → List ℕ
    With l = left.printed ++ step_lines (k + 1) l

    pub left_more :
        (s : Outcome)
        → s ≡ step_of r (get_or bytes place 0) (get_or bytes (place + 1) 0) (get_or bytes (place + 2) 0)
        → place + 2 < length bytes
        → (q : List ℕ) (c : ℕ)
        → Appended p b (step_line (k + 1) s.reply) q c
        → Left o a AllSteps s.next bytes (place + 3) (k + 1) q c
    unfolding step_lines
    left_more s e h q c u = record {
      printed = left.printed ++ step_line (k + 1) s.reply;
      appended = appended_then left.appended u;
      whole = append_assoc left.printed _ _ ∙ ap With (sym (replies_next bytes place r s e h)) ∙ left.whole;
    }

    pub left_all : length bytes ≤ place + 2 → Appended o a AllSteps p b
    unfolding step_lines
    left_all h =
        let none = replies_none bytes place r h in
        let is_all = sym (append-nil left.printed) ∙ ap With (sym none) ∙ left.whole in
        subst (λ (l : List ℕ). Appended o a l p b) is_all left.appended
