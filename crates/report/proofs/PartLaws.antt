-- Laws of the lines, by their parts: what was appended part by part is the line, and what was appended line by line is
-- all the lines. Each is `appended_then` of the crate text, which joins two parts, under the definition of a line: the
-- first part goes from the buffer o and its end a to the next buffer, each other one goes on from there.
--     refused_appended, .. router_appended                              the lines of the rehearsal
--     none_appended, path_appended, route_appended                      those of the routes
--     printed_own, printed_old, printed_new, pair_printed, pair_none    the pairs that have a line
--     routers_none, .. routes_more                                      no line, and one line or one row more
use Rattle.std.specs.Prelude.{ℕ, ◌+◌, ◌≤◌, ◌≡◌, Bool, true, false, not, ◌≢◌, eqb, length, Result, Ok, Err}
use Rattle.std.proofs.Math.Path.{refl, sym}
use Rattle.std.proofs.Common.{◌∙◌, arith}
use mathlib.Core.List.{List, ◌++◌, append_assoc}
use Rattle.std.proofs.Math.Numerals.{add-one}
use borrow.Author.Tests.{eq-eqb, ne_eqb}
use Rattle.area.specs.declared.refusal.Refusal.{Refusal}
use Rattle.area.specs.Limits.{unreached}
use Rattle.area.specs.Refusals.{refusal_number}
use Rattle.plan.specs.declared.Record.{Record}
use Rattle.machine.specs.declared.Effect.{Effect}
use Rattle.machine.specs.declared.Effect.TheVariants.{Applied, Ignored}
use Rattle.machine.specs.Answers.{Reply, refused, reply_of}
use Rattle.text.specs.Text.{Appended, word, field, line}
use Rattle.text.proofs.TextLaws.{appended_none, appended_then, line_after, refused_is}
use Rattle.report.specs.declared.lines.Path.{Path}
use Rattle.report.specs.Lines.{router_line, router_line_of, router_lines}
use Rattle.report.specs.Lines.{answer_text, step_line}
use Rattle.report.specs.Lines.{path_text, route_line, is_printed, pair_text, path, row_lines, route_lines}

-- ---- the rehearsal
pub refused_appended :
    (k : ℕ) {o p : List ℕ} {a b : ℕ}
    → Appended o a (line (word " refused ") k) p b
    → Appended o a (answer_text (refused k)) p b
unfolding answer_text
refused_appended k u = rw (refused_is k) (rw (line_after (word " ") (word "refused ") k) at u)

-- an answer, by its case
module _ (x : Result Effect Refusal) {o q : List ℕ} {a b : ℕ} where
  pub ok_appended : x ≡ Ok Applied → Appended o a (word " ok\n") q b → Appended o a (answer_text (reply_of x)) q b
  unfolding answer_text
  ok_appended e u = rw e u

  pub ignored_appended :
      x ≡ Ok Ignored
      → Appended o a (word " ignored\n") q b
      → Appended o a (answer_text (reply_of x)) q b
  unfolding answer_text
  ignored_appended e u = rw e u

  pub refusal_appended :
      (why : Refusal) (k : ℕ)
      → k ≡ refusal_number why
      → x ≡ Err why
      → Appended o a (line (word " refused ") k) q b
      → Appended o a (answer_text (reply_of x)) q b
  refusal_appended why k f e u = rw e (rw f at (refused_appended k u))

pub step_appended :
    (k : ℕ) (x : Reply) {o p q : List ℕ} {a b c : ℕ}
    → Appended o a (field (word "step ") k) p b
    → Appended p b (answer_text x) q c
    → Appended o a (step_line k x) q c
unfolding step_line
step_appended k x u v = appended_then u v

pub router_appended :
    (i rank waits tells due : ℕ) {o p q s t l : List ℕ} {a b c d e g : ℕ}
    → Appended o a (field (word "router ") i) p b
    → Appended p b (field (word " rank ") rank) q c
    → Appended q c (field (word " waits ") waits) s d
    → Appended s d (field (word " tells ") tells) t e
    → Appended t e (line (word " due ") due) l g
    → Appended o a (router_line i rank waits tells due) l g
unfolding router_line
router_appended i rank waits tells due u v w x y =
    appended_then u (appended_then v (appended_then w (appended_then x y)))

-- ---- the routes
module _ (p : Path) where
  pub path_none : p.distance ≡ unreached → path_text p ≡ word " none"
  unfolding path_text
  path_none e = rw (eq-eqb p.distance unreached e) refl

  path_some :
      p.distance ≢ unreached
      → path_text p ≡ field (word " ") p.distance ++ field (word " via ") p.hops
  unfolding path_text
  path_some f = rw (ne_eqb p.distance unreached f) refl

  pub none_appended :
      {o q : List ℕ} {a b : ℕ}
      → p.distance ≡ unreached
      → Appended o a (word " none") q b
      → Appended o a (path_text p) q b
  none_appended e u = rw (path_none e) u

  pub path_appended :
      {o q s : List ℕ} {a b c : ℕ}
      → p.distance ≢ unreached
      → Appended o a (field (word " ") p.distance) q b
      → Appended q b (field (word " via ") p.hops) s c
      → Appended o a (path_text p) s c
  path_appended f u v = rw (path_some f) (appended_then u v)

module _ (i j : ℕ) (p q : Path) where
  pub route_appended :
      {o x y z l : List ℕ} {a b c d e : ℕ}
      → Appended o a (field (word "route ") i ++ field (word " ") j) x b
      → Appended x b (word " old" ++ path_text p) y c
      → Appended y c (word " new" ++ path_text q) z d
      → Appended z d (word "\n") l e
      → Appended o a (route_line i j p q) l e
  unfolding route_line
  route_appended u v w x = simp append_assoc at (appended_then u (appended_then v (appended_then w x)))

  pub printed_own : i ≡ j → is_printed i j p q ≡ false
  unfolding is_printed
  printed_own e = rw (eq-eqb i j e) refl

  module _ (f : i ≢ j) where
    pub printed_old : p.distance ≢ unreached → is_printed i j p q ≡ true
    unfolding is_printed
    printed_old g = rw (ne_eqb i j f, ne_eqb p.distance unreached g) refl

    pub printed_new : p.distance ≡ unreached → is_printed i j p q ≡ not (eqb q.distance unreached)
    unfolding is_printed
    printed_new e = rw (ne_eqb i j f, eq-eqb p.distance unreached e) refl

  -- a pair that has a line, and one that has none
  pub pair_printed :
      (t : Bool) {o l : List ℕ} {a b : ℕ}
      → t ≡ is_printed i j p q
      → t ≡ true
      → Appended o a (route_line i j p q) l b
      → Appended o a (pair_text i j p q) l b
  unfolding pair_text
  pair_printed t is e u = rw (sym is ∙ e) u

  pub pair_none :
      (t : Bool)
      → t ≡ is_printed i j p q
      → t ≡ false
      → (o : List ℕ) (a : ℕ)
      → a ≤ length o
      → Appended o a (pair_text i j p q) o a
  unfolding pair_text
  pair_none t is e o a h = rw (sym is ∙ e) (appended_none o a h)

-- ---- one more
pub routers_none : (r : Record) (o : List ℕ) → Appended o 0 (router_lines r 0) o 0
unfolding router_lines
routers_none r o = appended_none o 0 (omega arith)

pub routers_more :
    (r : Record) (k : ℕ) {o p q : List ℕ} {a b c : ℕ}
    → Appended o a (router_lines r k) p b
    → Appended p b (router_line_of r k) q c
    → Appended o a (router_lines r (k + 1)) q c
unfolding router_lines
routers_more r k u v = rw add-one (appended_then u v)

module _ (d h e g : List ℕ) where
  pub row_none : (i : ℕ) (o : List ℕ) (a : ℕ) → a ≤ length o → Appended o a (row_lines d h e g i 0) o a
  unfolding row_lines
  row_none i o a b = appended_none o a b

  pub row_more :
      (i k : ℕ) {o p q : List ℕ} {a b c : ℕ}
      → Appended o a (row_lines d h e g i k) p b
      → Appended p b (pair_text i k (path d h i k) (path e g i k)) q c
      → Appended o a (row_lines d h e g i (k + 1)) q c
  unfolding row_lines
  row_more i k u v = rw add-one (appended_then u v)

  pub routes_none : (n : ℕ) (o : List ℕ) (a : ℕ) → a ≤ length o → Appended o a (route_lines d h e g n 0) o a
  unfolding route_lines
  routes_none n o a b = appended_none o a b

  pub routes_more :
      (n k : ℕ) {o p q : List ℕ} {a b c : ℕ}
      → Appended o a (route_lines d h e g n k) p b
      → Appended p b (row_lines d h e g k n) q c
      → Appended o a (route_lines d h e g n (k + 1)) q c
  unfolding route_lines
  routes_more n k u v = rw add-one (appended_then u v)
