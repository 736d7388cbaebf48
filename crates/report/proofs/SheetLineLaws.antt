-- Laws of the lines of a running sheet: what was appended part by part is the line, and what was appended line by line
-- is all the lines, as in PartLaws.antt.
--     member_printed, member_passed        a router that is a member of a set, and one that is none
--     members_none, members_more           no member, and one router more
--     set_none, set_some                   a set without members, and one that has some
--     turn_appended, turn_of               the line of a turn, and of a router's turn
--     turns_none, turns_more               no turn, and one turn more
--     sheet_appended                       all turns, and the end
use Rattle.std.specs.Prelude.{ℕ, ◌+◌, ◌≤◌, ◌≡◌, Bool, true, false, ◌≢◌, List, ◌++◌, length, get_or}
use Rattle.std.proofs.Common.{sym, ◌∙◌, append_assoc, arith, eq-eqb, ne_eqb}
use Rattle.std.proofs.Math.Numerals.{add-one}
use Rattle.area.specs.Limits.{width}
use Rattle.sets.specs.Sets.{bit}
use Rattle.plan.specs.declared.Record.{Record}
use Rattle.machine.specs.Machine.{due_of, telling_of}
use Rattle.sheet.specs.Sheet.{sheet_of}
use Rattle.text.specs.Text.{Appended, word, field}
use Rattle.text.proofs.TextLaws.{appended_none, appended_then}
use Rattle.report.specs.Lines.{member_word, member_text, set_text, turn_line, turn_line_of, turn_lines, sheet_lines}

-- ---- sets
module _ (set : ℕ) where
  -- t says whether router k is a member
  module _ (k : ℕ) (t : Bool) (is : t ≡ bit set k) where
    pub member_printed :
        {o p : List ℕ} {a b : ℕ}
        → t ≡ true
        → Appended o a (field (word " ") k) p b
        → Appended o a (member_word set k) p b
    unfolding member_word
    member_printed e u = rw (sym is ∙ e) u

    pub member_passed :
        t ≡ false
        → (o : List ℕ) (a : ℕ)
        → a ≤ length o
        → Appended o a (member_word set k) o a
    unfolding member_word
    member_passed e o a h = rw (sym is ∙ e) (appended_none o a h)

  pub members_none : (o : List ℕ) (a : ℕ) → a ≤ length o → Appended o a (member_text set 0) o a
  unfolding member_text
  members_none o a h = appended_none o a h

  pub members_more :
      (k : ℕ) {o p q : List ℕ} {a b c : ℕ}
      → Appended o a (member_text set k) p b
      → Appended p b (member_word set k) q c
      → Appended o a (member_text set (k + 1)) q c
  unfolding member_text
  members_more k u v = rw add-one (appended_then u v)

  module _ {o p : List ℕ} {a b : ℕ} where
    pub set_none : set ≡ 0 → Appended o a (word " none") p b → Appended o a (set_text set) p b
    unfolding set_text
    set_none e u = rw (eq-eqb set 0 e) u

    pub set_some : set ≢ 0 → Appended o a (member_text set width) p b → Appended o a (set_text set) p b
    unfolding set_text
    set_some f u = rw (ne_eqb set 0 f) u

-- ---- turns
pub turn_appended :
    (k router writes tells : ℕ) {o p q s t l : List ℕ} {a b c d e g : ℕ}
    → Appended o a (field (word "turn ") k) p b
    → Appended p b (field (word " router ") router) q c
    → Appended q c (word " writes" ++ set_text writes) s d
    → Appended s d (word " tells" ++ set_text tells) t e
    → Appended t e (word "\n") l g
    → Appended o a (turn_line k router writes tells) l g
unfolding turn_line
turn_appended k router writes tells u v w x y =
    simp append_assoc at (appended_then u (appended_then v (appended_then w (appended_then x y))))

pub turn_of :
    (r : Record) (k i writes tells : ℕ) {o p : List ℕ} {a b : ℕ}
    → writes ≡ due_of r i
    → tells ≡ telling_of r i
    → Appended o a (turn_line k i writes tells) p b
    → Appended o a (turn_line_of r k i) p b
turn_of r k i writes tells due told u = rw (due, told) at u

module _ (r : Record) (places : List ℕ) where
  pub turns_none : (o : List ℕ) → Appended o 0 (turn_lines r places 0) o 0
  unfolding turn_lines
  turns_none o = appended_none o 0 (omega arith)

  pub turns_more :
      (k : ℕ) {o p q : List ℕ} {a b c : ℕ}
      → Appended o a (turn_lines r places k) p b
      → Appended p b (turn_line_of r (k + 1) (get_or places k 0)) q c
      → Appended o a (turn_lines r places (k + 1)) q c
  unfolding turn_lines
  turns_more k u v = rw add-one (appended_then u v)

  -- all turns, and the end
  pub sheet_appended :
      {o p q : List ℕ} {a b : ℕ}
      → places ≡ sheet_of r
      → Appended o 0 (turn_lines r places r.n) p a
      → Appended p a (word "end\n") q b
      → Appended o 0 (sheet_lines r) q b
  sheet_appended is u v = appended_then (rw is at u) v
