-- Laws of the lines of a step section, at any place of a buffer: what was appended call by call is the text of the
-- list, as in CallPartLaws.antt. CallLineLaws.antt has those of a writer.
--     no_calls                                     no call is nothing
--     member_called, member_uncalled               a call for a member of a set, and none for another router
--     each_start, each_next                        no list of calls, and one more
--     ticks_start, ticks_next                      no tick, and one more
--     opening_called, turn_called, sheet_called    the calls before the turns, of a turn, and of a whole sheet
--     section_whole, section_long                  the section, and one with too many steps
--     places_called                                the calls of a sheet, by its places
use Rattle.std.specs.Prelude.{ℕ, ◌+◌, ◌≤◌, ◌<◌, ◌≡◌, Bool, true, false, List, [], ◌∷◌, ◌++◌, length, get_or}
use Rattle.std.proofs.Common.{sym, ap, subst, ◌∙◌, append_assoc}
use borrow.Author.Tests.{le-leb, lt-leb}
use Rattle.area.specs.Limits.{most_steps}
use Rattle.area.specs.Tests.{pick}
use Rattle.sets.specs.Sets.{bit}
use Rattle.plan.specs.declared.Record.{Record}
use Rattle.machine.specs.Machine.{learn_kind, release_kind, write_kind, finish_kind, deliver_kind, tick_kind}
use Rattle.machine.specs.Machine.{due_of, telling_of}
use Rattle.machine.specs.Run.{Call, call, ticks}
use Rattle.sheet.specs.Sheet.{sheet_of}
use Rattle.sheet.specs.Follow.{each, call_each, call_members, turn, hold_ticks, following, sheet_calls}
use Rattle.sheet.proofs.EachLaws.{each_none, each_more}
use Rattle.text.specs.Text.{Appended, word, line}
use Rattle.text.proofs.TextLaws.{appended_none, appended_then}
use Rattle.report.specs.Lines.{count_line, call_line, call_lines, step_section}
use Rattle.report.specs.Parts.{opening}
use Rattle.report.proofs.CallLineLaws.{ticks_more}
use Rattle.report.proofs.CallPartLaws.{calls_appended, one_appended}

-- ---- lists of calls
no_calls : (o : List ℕ) (a : ℕ) → a ≤ length o → Appended o a (call_lines []) o a
unfolding call_lines
no_calls o a h = appended_none o a h

-- t says whether x is a member of the set
module _ (set x : ℕ) (c : Call) (t : Bool) (is : t ≡ bit set x) where
  pub member_called :
      {o p : List ℕ} {a b : ℕ}
      → t ≡ true
      → Appended o a (call_line c) p b
      → Appended o a (call_lines (pick (bit set x) (c ∷ []) [])) p b
  member_called e u = rw (sym is ∙ e) (one_appended c u)

  pub member_uncalled :
      t ≡ false
      → (o : List ℕ) (a : ℕ)
      → a ≤ length o
      → Appended o a (call_lines (pick (bit set x) (c ∷ []) [])) o a
  member_uncalled e o a h = rw (sym is ∙ e) (no_calls o a h)

module _ (f : ℕ → List Call) where
  pub each_start : (o : List ℕ) (a : ℕ) → a ≤ length o → Appended o a (call_lines (each 0 f)) o a
  each_start o a h = rw (each_none f) (no_calls o a h)

  pub each_next :
      (k : ℕ) {o p q : List ℕ} {a b c : ℕ}
      → Appended o a (call_lines (each k f)) p b
      → Appended p b (call_lines (f k)) q c
      → Appended o a (call_lines (each (k + 1) f)) q c
  each_next k u v = rw (each_more f k) (calls_appended (each k f) (f k) u v)

-- ---- ticks
pub ticks_start : (o : List ℕ) (a : ℕ) → a ≤ length o → Appended o a (call_lines (ticks 0)) o a
ticks_start o a h = no_calls o a h

pub ticks_next :
    (k : ℕ) {o p q : List ℕ} {a b c : ℕ}
    → Appended o a (call_lines (ticks k)) p b
    → Appended p b (call_line (call tick_kind 0 0)) q c
    → Appended o a (call_lines (ticks (k + 1))) q c
ticks_next k u v = rw (ticks_more k) (calls_appended (ticks k) _ u (one_appended _ v))

-- ---- what comes before the turns
pub opening_called :
    (n hold : ℕ) {o p q s : List ℕ} {a b c d : ℕ}
    → Appended o a (call_lines (call_each n (λ x. call learn_kind x 0))) p b
    → Appended p b (call_lines (ticks hold)) q c
    → Appended q c (call_lines (call_each n (λ x. call release_kind x 0))) s d
    → Appended o a (call_lines (opening n hold)) s d
opening_called n hold u v w = calls_appended _ _ u (calls_appended _ _ v w)

-- ---- a turn, and a sheet
module _ (r : Record) where
  pub turn_called :
      (i writes tells : ℕ) {o p q s : List ℕ} {a b c d : ℕ}
      → writes ≡ due_of r i
      → tells ≡ telling_of r i
      → Appended o a (call_lines (call_members r.n writes (λ x. call write_kind i x))) p b
      → Appended p b (call_line (call finish_kind i 0)) q c
      → Appended q c (call_lines (call_members r.n tells (λ x. call deliver_kind i x))) s d
      → Appended o a (call_lines (turn r i)) s d
  turn_called i writes tells due told u v w =
      calls_appended _ _ (rw due at u) (calls_appended _ _ (one_appended _ v) (rw told at w))

  pub sheet_called :
      (place : ℕ → ℕ) {o p q : List ℕ} {a b c : ℕ}
      → Appended o a (call_lines (opening r.n r.hold_time)) p b
      → Appended p b (call_lines (each r.n (λ k. turn r (place k)))) q c
      → Appended o a (call_lines (following r place)) q c
  sheet_called place {o} {q = q} {a} {c = c} u v =
      subst (λ (calls : List Call). Appended o a (call_lines calls) q c) parts
      (calls_appended (opening r.n r.hold_time) turns u v)
    where
      learning : List Call
      learning = call_each r.n (λ x. call learn_kind x 0)

      releasing : List Call
      releasing = call_each r.n (λ x. call release_kind x 0)

      turns : List Call
      turns = each r.n (λ k. turn r (place k))

      parts : opening r.n r.hold_time ++ turns ≡ following r place
      parts =
          append_assoc learning (hold_ticks r ++ releasing) turns
          ∙ ap (λ (l : List Call). learning ++ l) (append_assoc (hold_ticks r) releasing turns)

-- ---- the section of a list of calls
module _ (calls : List Call) (count : ℕ) (counted : count ≡ length calls) where
  pub section_whole :
      {o p q : List ℕ} {a b c : ℕ}
      → count ≤ most_steps
      → Appended o a (count_line count) p b
      → Appended p b (call_lines calls) q c
      → Appended o a (step_section calls) q c
  unfolding step_section
  section_whole h u v = rw (← counted, le-leb count most_steps h) (appended_then u v)

  pub section_long :
      {o p : List ℕ} {a b : ℕ}
      → most_steps < count
      → Appended o a (line (word "too many steps: ") count) p b
      → Appended o a (step_section calls) p b
  unfolding step_section
  section_long h u = rw (← counted, lt-leb count most_steps h) u

-- the calls of a record's sheet, by the routers at its places
pub places_called :
    (r : Record) (places : List ℕ) {o p : List ℕ} {a b : ℕ}
    → places ≡ sheet_of r
    → Appended o a (call_lines (following r (λ k. get_or places k 0))) p b
    → Appended o a (call_lines (sheet_calls r)) p b
places_called r places {o} {p} {a} {b} is u =
    subst (λ (l : List ℕ). Appended o a (call_lines (following r (λ k. get_or l k 0))) p b) is u
