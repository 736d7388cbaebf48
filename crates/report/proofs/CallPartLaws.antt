-- Laws of the lines of a step section, by their parts: what was appended part by part is the line, and what was
-- appended call by call is the text of the list, as in PartLaws.antt.
--     count_appended, call_appended      the line of the count, and of a call
--     calls_appended, one_appended       one list of calls after another, and one call
use Rattle.std.specs.Prelude.{ℕ, ◌/◌, ◌%◌, List, [], ◌∷◌, ◌++◌}
use Rattle.std.proofs.Common.{append-nil, append_assoc}
use Rattle.machine.specs.Run.{Call, call}
use Rattle.text.specs.Text.{Appended, word}
use Rattle.text.proofs.TextLaws.{appended_then}
use Rattle.hexadecimal.specs.Digits.{hex_byte}
use Rattle.report.specs.Lines.{count_line, call_line, call_lines}
use Rattle.report.proofs.CallLineLaws.{lines_joined}

-- ---- lines
pub count_appended :
    (count : ℕ) {o p q : List ℕ} {a b c : ℕ}
    → Appended o a (hex_byte (count / 256)) p b
    → Appended p b (hex_byte (count % 256) ++ word "\n") q c
    → Appended o a (count_line count) q c
unfolding count_line
count_appended count u v = appended_then u v

pub call_appended :
    (kind x y : ℕ) {o p q s : List ℕ} {a b c d : ℕ}
    → Appended o a (hex_byte kind ++ word " ") p b
    → Appended p b (hex_byte x ++ word " ") q c
    → Appended q c (hex_byte y ++ word "\n") s d
    → Appended o a (call_line (call kind x y)) s d
unfolding call_line
call_appended kind x y u v w = simp append_assoc at (appended_then u (appended_then v w))

-- ---- lists of calls
pub calls_appended :
    (calls more : List Call) {o p q : List ℕ} {a b c : ℕ}
    → Appended o a (call_lines calls) p b
    → Appended p b (call_lines more) q c
    → Appended o a (call_lines (calls ++ more)) q c
calls_appended calls more u v = rw (lines_joined calls more) (appended_then u v)

pub one_appended :
    (c : Call) {o p : List ℕ} {a b : ℕ}
    → Appended o a (call_line c) p b
    → Appended o a (call_lines (c ∷ [])) p b
unfolding call_lines
one_appended c u = rw (append-nil (call_line c)) u
