-- Laws of the lines of a step section: what was written call by call is the text of the whole list.
--     lines_joined                                 one list of calls after another
--     calls_then, one_written                      the same as they are written, and one call
--     member_called, member_uncalled               a call for a member of a set, and none for another router
--     each_start, each_next                        no list of calls, and one more
--     ticks_start, ticks_more, ticks_next          no tick, and one more
--     opening_called, turn_called, sheet_called    the calls before the turns, of a turn, and of a whole sheet
--     section_whole, section_long                  the section, and one with too many steps
--     places_called                                the calls of a sheet, by its places
use Rattle.std.specs.Prelude.{ℕ, zero, suc, ◌+◌, ◌≤◌, ◌<◌, ◌≡◌, refl, Bool, true, false, List}
use Rattle.std.specs.Prelude.{[], ◌∷◌, ◌++◌, length, get_or}
use Rattle.std.proofs.Common.{sym, ap, subst, ◌∙◌, append-nil, append_assoc, add-one}
use borrow.Author.Tests.{le-leb, lt-leb}
use Rattle.area.specs.Limits.{most_steps}
use Rattle.area.specs.Tests.{pick}
use Rattle.sets.specs.Sets.{bit}
use Rattle.plan.specs.declared.Record.{Record}
use Rattle.machine.specs.Machine.{learn_kind, release_kind, write_kind, finish_kind, deliver_kind, tick_kind}
use Rattle.machine.specs.Machine.{due_of, telling_of}
use Rattle.machine.specs.Run.{Call, call, ticks}
use Rattle.sheet.specs.Sheet.{sheet_of}
use Rattle.sheet.specs.Follow.{each, call_each, call_members, turn, hold_ticks, following, sheet_calls}
use Rattle.sheet.proofs.EachLaws.{each_none, each_more}
use Rattle.text.specs.Text.{Writes, word, line}
use Rattle.text.specs.declared.writer.Writer.{Writer}
use Rattle.text.proofs.WriterLaws.{writes_none, writes_then}
use Rattle.report.specs.Lines.{count_line, call_line, call_lines, step_section}
use Rattle.report.specs.Parts.{opening}

-- ---- lists of calls
pub lines_joined : (calls more : List Call) → call_lines (calls ++ more) ≡ call_lines calls ++ call_lines more
unfolding call_lines
lines_joined [] more = refl
lines_joined (c ∷ cs) more =
    ap (λ (l : List ℕ). call_line c ++ l) (lines_joined cs more) ∙ sym (append_assoc (call_line c) _ _)

pub calls_then :
    (calls more : List Call) {u v w : Writer}
    → Writes u (call_lines calls) v
    → Writes v (call_lines more) w
    → Writes u (call_lines (calls ++ more)) w
calls_then calls more x y = rw (lines_joined calls more) (writes_then x y)

no_calls : (u : Writer) → Writes u (call_lines []) u
unfolding call_lines
no_calls u = writes_none u

pub one_written : (c : Call) {u v : Writer} → Writes u (call_line c) v → Writes u (call_lines (c ∷ [])) v
unfolding call_lines
one_written c x = rw (append-nil (call_line c)) x

module _ (f : ℕ → List Call) where
  pub each_start : (u : Writer) → Writes u (call_lines (each 0 f)) u
  each_start u = rw (each_none f) (no_calls u)

  pub each_next :
      (k : ℕ) {u v w : Writer}
      → Writes u (call_lines (each k f)) v
      → Writes v (call_lines (f k)) w
      → Writes u (call_lines (each (k + 1) f)) w
  each_next k x y = rw (each_more f k) (calls_then (each k f) (f k) x y)

-- for the members of a set: t says whether k is one
module _ (set k : ℕ) (c : ℕ → Call) (t : Bool) (is : t ≡ bit set k) where
  pub member_called :
      {u v w : Writer}
      → t ≡ true
      → Writes u (call_lines (call_members k set c)) v
      → Writes v (call_line (c k)) w
      → Writes u (call_lines (call_members (k + 1) set c)) w
  member_called e x y =
      each_next (λ j. pick (bit set j) (c j ∷ []) []) k x (rw (sym is ∙ e) (one_written (c k) y))

  pub member_uncalled :
      {u v : Writer}
      → t ≡ false
      → Writes u (call_lines (call_members k set c)) v
      → Writes u (call_lines (call_members (k + 1) set c)) v
  member_uncalled {u} {v} e x = each_next (λ j. pick (bit set j) (c j ∷ []) []) k x (rw (sym is ∙ e) (no_calls v))

-- ---- ticks
pub ticks_start : (u : Writer) → Writes u (call_lines (ticks 0)) u
ticks_start u = no_calls u

pub ticks_more : (k : ℕ) → ticks (k + 1) ≡ ticks k ++ (call tick_kind 0 0 ∷ [])
ticks_more k = rw add-one (last k)
  where
    last : (k : ℕ) → ticks (suc k) ≡ ticks k ++ (call tick_kind 0 0 ∷ [])
    last zero = refl
    last (suc k) = ap (λ (l : List Call). call tick_kind 0 0 ∷ l) (last k)

pub ticks_next :
    (k : ℕ) {u v w : Writer}
    → Writes u (call_lines (ticks k)) v
    → Writes v (call_line (call tick_kind 0 0)) w
    → Writes u (call_lines (ticks (k + 1))) w
ticks_next k x y = rw (ticks_more k) (calls_then (ticks k) _ x (one_written _ y))

-- ---- what comes before the turns
pub opening_called :
    (n hold : ℕ) {u v w z : Writer}
    → Writes u (call_lines (call_each n (λ x. call learn_kind x 0))) v
    → Writes v (call_lines (ticks hold)) w
    → Writes w (call_lines (call_each n (λ x. call release_kind x 0))) z
    → Writes u (call_lines (opening n hold)) z
opening_called n hold x y t = calls_then _ _ x (calls_then _ _ y t)

-- ---- a turn, and a sheet
module _ (r : Record) where
  pub turn_called :
      (i writes tells : ℕ) {u v w z : Writer}
      → writes ≡ due_of r i
      → tells ≡ telling_of r i
      → Writes u (call_lines (call_members r.n writes (λ x. call write_kind i x))) v
      → Writes v (call_line (call finish_kind i 0)) w
      → Writes w (call_lines (call_members r.n tells (λ x. call deliver_kind i x))) z
      → Writes u (call_lines (turn r i)) z
  turn_called i writes tells due told x y t =
      calls_then _ _ (rw due at x) (calls_then _ _ (one_written _ y) (rw told at t))

  pub sheet_called :
      (place : ℕ → ℕ) {u v w : Writer}
      → Writes u (call_lines (opening r.n r.hold_time)) v
      → Writes v (call_lines (each r.n (λ k. turn r (place k)))) w
      → Writes u (call_lines (following r place)) w
  sheet_called place {u} {w = w} x y =
      subst (λ (calls : List Call). Writes u (call_lines calls) w) parts
      (calls_then (opening r.n r.hold_time) turns x y)
    where
      learning : List Call
      learning = call_each r.n (λ x. call learn_kind x 0)

      releasing : List Call
      releasing = call_each r.n (λ x. call release_kind x 0)

      turns : List Call
      turns = each r.n (λ k. turn r (place k))

      parts : opening r.n r.hold_time ++ turns ≡ following r place
      parts =
          append_assoc learning (hold_ticks r ++ releasing) turns
          ∙ ap (λ (l : List Call). learning ++ l) (append_assoc (hold_ticks r) releasing turns)

-- ---- the section of a list of calls
module _ (calls : List Call) (count : ℕ) (counted : count ≡ length calls) where
  pub section_whole :
      {u v w : Writer}
      → count ≤ most_steps
      → Writes u (count_line count) v
      → Writes v (call_lines calls) w
      → Writes u (step_section calls) w
  unfolding step_section
  section_whole h x y = rw (← counted, le-leb count most_steps h) (writes_then x y)

  pub section_long :
      {u v : Writer}
      → most_steps < count
      → Writes u (line (word "too many steps: ") count) v
      → Writes u (step_section calls) v
  unfolding step_section
  section_long h x = rw (← counted, lt-leb count most_steps h) x

-- the calls of a record's sheet, by the routers at its places
pub places_called :
    (r : Record) (places : List ℕ) {u v : Writer}
    → places ≡ sheet_of r
    → Writes u (call_lines (following r (λ k. get_or places k 0))) v
    → Writes u (call_lines (sheet_calls r)) v
places_called r places {u} {v} is x =
    subst (λ (l : List ℕ). Writes u (call_lines (following r (λ k. get_or l k 0))) v) is x
