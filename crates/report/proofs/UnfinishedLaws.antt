-- Laws of the lines of what is left after the last step: what was appended part by part is the line, and what was
-- appended line by line is all the lines, as in PartLaws.antt.
--     idle_appended, .. done_appended              the name of a state
--     holds_idle, .. wait_some, times_appended     its times
--     unfinished_appended                          the line of a router
--     router_unfinished, router_done               a router that is not done, and one that is
--     unfinished_none, unfinished_more             no line, and one router more
use Rattle.std.specs.Prelude.{ℕ, ◌+◌, ◌≤◌, ◌≡◌, ◌≢◌, List, [], ◌++◌, length}
use Rattle.std.proofs.Common.{append_assoc, arith, eq-eqb, ne_eqb}
use Rattle.std.proofs.Math.Numerals.{add-one}
use Rattle.area.specs.Limits.{width}
use Rattle.sets.specs.Sets.{without}
use Rattle.plan.specs.declared.Record.{Record}
use Rattle.machine.specs.declared.states.State.{State}
use Rattle.machine.specs.declared.states.State.TheVariants.{Idle, Holding, Ongoing, Done}
use Rattle.machine.specs.Machine.{done, state_of, waiting_of, due_of, written_of, held_until, due_time}
use Rattle.machine.specs.States.{named}
use Rattle.text.specs.Text.{Appended, word, field}
use Rattle.text.proofs.TextLaws.{appended_none, appended_then}
use Rattle.report.specs.Lines.{set_text, state_word, hold_text, last_wait, wait_text}
use Rattle.report.specs.Lines.{unfinished_line, unfinished_text, unfinished_lines}

-- until when a router holds, when its timer lets it go, and the end of its line
abbrev pub times_end : (s : State) (waits until due : ℕ) → List ℕ
times_end s waits until due = hold_text s until ++ (wait_text s waits due ++ word "\n")

-- ---- the name of a state, by its case
module _ (s : State) {o p : List ℕ} {a b : ℕ} where
  pub idle_appended : s ≡ Idle → Appended o a (word " idle") p b → Appended o a (state_word s) p b
  unfolding state_word
  idle_appended e u = rw e u

  pub holding_appended : s ≡ Holding → Appended o a (word " holding") p b → Appended o a (state_word s) p b
  unfolding state_word
  holding_appended e u = rw e u

  pub ongoing_appended : s ≡ Ongoing → Appended o a (word " ongoing") p b → Appended o a (state_word s) p b
  unfolding state_word
  ongoing_appended e u = rw e u

  pub done_appended : s ≡ Done → Appended o a (word " done") p b → Appended o a (state_word s) p b
  unfolding state_word
  done_appended e u = rw e u

-- ---- the times, and the end of the line
pub times_appended :
    (s : State) (waits until due : ℕ) {o p q v : List ℕ} {a b c d : ℕ}
    → Appended o a (hold_text s until) p b
    → Appended p b (wait_text s waits due) q c
    → Appended q c (word "\n") v d
    → Appended o a (times_end s waits until due) v d
times_appended s waits until due u v w = appended_then u (appended_then v w)

module _ (s : State) {o p : List ℕ} {a b : ℕ} where
  -- until when it holds, by its state
  pub holds_idle : (until : ℕ) → s ≡ Idle → Appended o a [] p b → Appended o a (hold_text s until) p b
  unfolding hold_text
  holds_idle until e u = rw e u

  pub holds_holding :
      (until : ℕ) → s ≡ Holding → Appended o a (field (word " holds until ") until) p b
      → Appended o a (hold_text s until) p b
  unfolding hold_text
  holds_holding until e u = rw e u

  pub holds_ongoing : (until : ℕ) → s ≡ Ongoing → Appended o a [] p b → Appended o a (hold_text s until) p b
  unfolding hold_text
  holds_ongoing until e u = rw e u

  pub holds_done : (until : ℕ) → s ≡ Done → Appended o a [] p b → Appended o a (hold_text s until) p b
  unfolding hold_text
  holds_done until e u = rw e u

  -- when its timer lets it go, by its state
  pub lets_idle : (due : ℕ) → s ≡ Idle → Appended o a [] p b → Appended o a (last_wait s due) p b
  unfolding last_wait
  lets_idle due e u = rw e u

  pub lets_holding :
      (due : ℕ) → s ≡ Holding → Appended o a (field (word " waits until ") due) p b
      → Appended o a (last_wait s due) p b
  unfolding last_wait
  lets_holding due e u = rw e u

  pub lets_ongoing :
      (due : ℕ) → s ≡ Ongoing → Appended o a (field (word " waits until ") due) p b
      → Appended o a (last_wait s due) p b
  unfolding last_wait
  lets_ongoing due e u = rw e u

  pub lets_done : (due : ℕ) → s ≡ Done → Appended o a [] p b → Appended o a (last_wait s due) p b
  unfolding last_wait
  lets_done due e u = rw e u

  -- where it waits for none there is nothing to say
  pub wait_none : (waits due : ℕ) → waits ≡ 0 → Appended o a [] p b → Appended o a (wait_text s waits due) p b
  unfolding wait_text
  wait_none waits due e u = rw (eq-eqb waits 0 e) u

  pub wait_some :
      (waits due : ℕ) → waits ≢ 0 → Appended o a (last_wait s due) p b → Appended o a (wait_text s waits due) p b
  unfolding wait_text
  wait_some waits due f u = rw (ne_eqb waits 0 f) u

-- ---- the line of a router
pub unfinished_appended :
    (i : ℕ) (s : State) (waits unwritten until due : ℕ) {o p q v t l : List ℕ} {a b c d e g : ℕ}
    → Appended o a (field (word "router ") i) p b
    → Appended p b (state_word s) q c
    → Appended q c (word " waits" ++ set_text waits) v d
    → Appended v d (word " unwritten" ++ set_text unwritten) t e
    → Appended t e (times_end s waits until due) l g
    → Appended o a (unfinished_line i s waits unwritten until due) l g
unfolding unfinished_line
unfinished_appended i s waits unwritten until due u v w x y =
    simp append_assoc at (appended_then u (appended_then v (appended_then w (appended_then x y))))

module _ (r : Record) (i : ℕ) where
  pub router_unfinished :
      (s : State) (unwritten until due : ℕ) {o p : List ℕ} {a b : ℕ}
      → state_of r i ≢ done
      → s ≡ named (state_of r i)
      → unwritten ≡ without width (due_of r i) (written_of r i)
      → until ≡ held_until r i
      → due ≡ due_time r i
      → Appended o a (unfinished_line i s (waiting_of r i) unwritten until due) p b
      → Appended o a (unfinished_text r i) p b
  unfolding unfinished_text
  router_unfinished s unwritten until due f state set held late u =
      rw (ne_eqb (state_of r i) done f) (rw (state, set, held, late) at u)

  pub router_done :
      state_of r i ≡ done
      → (o : List ℕ) (a : ℕ)
      → a ≤ length o
      → Appended o a (unfinished_text r i) o a
  unfolding unfinished_text
  router_done e o a h = rw (eq-eqb (state_of r i) done e) (appended_none o a h)

-- ---- all routers
module _ (r : Record) where
  pub unfinished_none : (o : List ℕ) → Appended o 0 (unfinished_lines r 0) o 0
  unfolding unfinished_lines
  unfinished_none o = appended_none o 0 (omega arith)

  pub unfinished_more :
      (k : ℕ) {o p q : List ℕ} {a b c : ℕ}
      → Appended o a (unfinished_lines r k) p b
      → Appended p b (unfinished_text r k) q c
      → Appended o a (unfinished_lines r (k + 1)) q c
  unfolding unfinished_lines
  unfinished_more k u v = rw add-one (appended_then u v)
