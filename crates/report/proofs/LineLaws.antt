-- A text of several parts is written part by part, and a part that is empty by writing nothing:
--     written                          the two laws of it
-- Laws of the lines of the steps, which are defined from the first one on: so the loop over the bytes keeps what is
-- left. With the lines of the calls that are left, the text has all lines.
--     Rest, rest_more, rest_all        between two steps, after one step more, and at the end
use Rattle.std.specs.Prelude.{ℕ, ◌+◌, ◌<◌, ◌≤◌, ◌≡◌, List, length, get_or, drop}
use Rattle.plan.specs.declared.Record.{Record}
use Rattle.machine.specs.Answers.{Outcome}
use Rattle.machine.specs.Machine.{step_of}
use Rattle.machine.specs.Run.{replies, calls_of}
use Rattle.machine.proofs.CallLaws.{replies_none, replies_next}
use Rattle.text.specs.Text.{Writes}
use Rattle.text.specs.declared.writer.Writer.{Writer}
use Rattle.text.proofs.WriterLaws.{writes_none, writes_then}
use Rattle.report.specs.Lines.{step_line, step_lines}

pub ruleset written = (writes_then, writes_none)

-- The text was that of u, and is that of v. r is the record, `left` are the bytes of the calls that are left, and k of
-- them were taken.
abbrev pub Rest : (u : Writer) (all : List ℕ) (v : Writer) (k : ℕ) (r : Record) (left : List ℕ) → Type 0
Rest u all v k r left =
    (x : Writer) → Writes v (step_lines (k + 1) (replies r (calls_of left))) x → Writes u all x

module _ (u : Writer) (all : List ℕ) (v : Writer) (k : ℕ) (r : Record) (left : List ℕ) (rest : Rest u all v k r left)
  where
    pub rest_more :
        (o : Outcome) (w : Writer)
        → o ≡ step_of r (get_or left 0 0) (get_or left 1 0) (get_or left 2 0)
        → 2 < length left
        → Writes v (step_line (k + 1) o.reply) w
        → Rest u all w (k + 1) o.next (drop 3 left)
    unfolding step_lines
    rest_more o w e h y = λ x z. rest x (rw (replies_next left 0 r o e h) (writes_then y z))

    pub rest_all : length left ≤ 2 → Writes u all v
    unfolding step_lines
    rest_all h = rest v (rw (replies_none left 0 r h) (writes_none v))
