-- How many bytes the lines have at most. A word has its own length and a number at most twenty digits (`field_most` and
-- `line_most` of the crate text), so each line is bounded by the sum of its parts; all lines of a kind are bounded by
-- that for each of them.
--     refused_most, router_most, step_most, route_most, turn_most, unfinished_most, call_most     one line
--     routers_most, steps_most, routes_most, turns_most, unfinished_lines_most, section_most      all lines of a kind
use Prim.Native.Nat.{ℕ, zero, suc, ◌+◌, ◌*◌, ◌/◌, ◌%◌, ◌≤◌}
use Rattle.std.specs.Prelude.{◌≡◌, true, false, ◌⊎◌, List, [], ◌∷◌, eqb, leb, length, get_or}
use Rattle.std.proofs.Common.{inl, inr, ⊎_elim, leb-true}
use native.Mathlib.Omega.{arith}
use Rattle.std.proofs.Math.ListN.{length-append}
use Rattle.area.specs.Limits.{width, unreached, most_steps}
use Rattle.area.proofs.TestLaws.{look}
use Rattle.sets.specs.Sets.{bit}
use Rattle.plan.specs.declared.Record.{Record}
use Rattle.machine.specs.Answers.{Reply, ok, ignored, refused}
use Rattle.machine.specs.declared.states.State.{State}
use Rattle.machine.specs.declared.states.State.TheVariants.{Idle, Holding, Ongoing, Done}
use Rattle.machine.specs.Machine.{done, state_of, waiting_of, due_of, telling_of, held_until, due_time}
use Rattle.machine.specs.States.{named}
use Rattle.machine.specs.Run.{Call}
use Rattle.needs.specs.Needs.{unwritten_of}
use Rattle.text.specs.Text.{word}
use Rattle.text.proofs.TextLaws.{field_most, line_most, refused_most}
use Rattle.hexadecimal.proofs.PrintingLaws.{byte_length}
use Rattle.report.specs.declared.lines.Path.{Path}
use Rattle.report.specs.Lines.{router_line, router_lines, answer_text, step_line, step_lines}
use Rattle.report.specs.Lines.{path_text, route_line, is_printed, pair_text, path, row_lines, route_lines}
use Rattle.report.specs.Lines.{member_word, member_text, set_text, turn_line, turn_lines}
use Rattle.report.specs.Lines.{state_word, hold_text, last_wait, wait_text, unfinished_line, unfinished_text}
use Rattle.report.specs.Lines.{unfinished_lines}
use Rattle.report.specs.Lines.{count_line, call_line, call_lines, step_section}

-- ---- one line
router_most : (i rank waits tells due : ℕ) → length (router_line i rank waits tells due) ≤ 133
unfolding router_line
router_most i rank waits tells due =
    let named = field_most (word "router ") i in
    let ranked = field_most (word " rank ") rank in
    let waiting = field_most (word " waits ") waits in
    let telling = field_most (word " tells ") tells in
    simp length-append (omega (arith, line_most (word " due ") due))

answer_most : (x : Reply) → length (answer_text x) ≤ 30
unfolding answer_text
answer_most ok = omega arith
answer_most ignored = omega arith
answer_most (refused k) = simp length-append (omega (arith, refused_most k))

step_most : (k : ℕ) (x : Reply) → length (step_line k x) ≤ 55
unfolding step_line
step_most k x = simp length-append (omega (arith, field_most (word "step ") k, answer_most x))

path_most : (p : Path) → length (path_text p) ≤ 46
unfolding path_text
path_most p =
    let distance = field_most (word " ") p.distance in
    let hops = field_most (word " via ") p.hops in
    ⊎_elim (λ t. rw t (omega arith)) (λ f. rw f (simp length-append (omega arith)))
    (look (eqb p.distance unreached))

route_most : (i j : ℕ) (p q : Path) → length (route_line i j p q) ≤ 148
unfolding route_line
route_most i j p q =
    let first = field_most (word "route ") i in
    let second = field_most (word " ") j in
    simp length-append (omega (arith, path_most p, path_most q))

pair_most : (i j : ℕ) (p q : Path) → length (pair_text i j p q) ≤ 148
unfolding pair_text
pair_most i j p q = ⊎_elim (λ t. rw t (route_most i j p q)) (λ f. rw f (omega arith)) (look (is_printed i j p q))

member_most : (set k : ℕ) → length (member_word set k) ≤ 21
unfolding member_word
member_most set k =
    let named = field_most (word " ") k in
    ⊎_elim (λ t. rw t (omega arith)) (λ f. rw f (omega arith)) (look (bit set k))

members_most : (set k : ℕ) → length (member_text set k) ≤ 21 * k
unfolding member_text
members_most set zero = omega arith
members_most set (suc k) = simp length-append (omega (arith, members_most set k, member_most set k))

set_most : (set : ℕ) → length (set_text set) ≤ 21 * width
unfolding set_text
set_most set =
    let members = members_most set width in
    ⊎_elim (λ t. rw t (omega arith)) (λ f. rw f (omega arith)) (look (eqb set 0))

turn_most : (k a writes tells : ℕ) → length (turn_line k a writes tells) ≤ 67 + 42 * width
unfolding turn_line
turn_most k a writes tells =
    let counted = field_most (word "turn ") k in
    let named = field_most (word " router ") a in
    simp length-append (omega (arith, set_most writes, set_most tells))

state_most : (s : State) → length (state_word s) ≤ 8
unfolding state_word
state_most Idle = omega arith
state_most Holding = omega arith
state_most Ongoing = omega arith
state_most Done = omega arith

hold_most : (s : State) (until : ℕ) → length (hold_text s until) ≤ 33
unfolding hold_text
hold_most Idle until = omega arith
hold_most Holding until = field_most (word " holds until ") until
hold_most Ongoing until = omega arith
hold_most Done until = omega arith

last_wait_most : (s : State) (due : ℕ) → length (last_wait s due) ≤ 33
unfolding last_wait
last_wait_most Idle due = omega arith
last_wait_most Holding due = field_most (word " waits until ") due
last_wait_most Ongoing due = field_most (word " waits until ") due
last_wait_most Done due = omega arith

wait_most : (s : State) (waits due : ℕ) → length (wait_text s waits due) ≤ 33
unfolding wait_text
wait_most s waits due =
    let most = last_wait_most s due in
    ⊎_elim (λ t. rw t (omega arith)) (λ f. rw f most) (look (eqb waits 0))

unfinished_most :
    (i : ℕ) (s : State) (waits unwritten until due : ℕ)
    → length (unfinished_line i s waits unwritten until due) ≤ 118 + 42 * width
unfolding unfinished_line
unfinished_most i s waits unwritten until due =
    let named = field_most (word "router ") i in
    let sets = set_most waits in
    let more = set_most unwritten in
    let times = hold_most s until in
    simp length-append (omega (arith, state_most s, wait_most s waits due))

unfinished_text_most : (r : Record) (i : ℕ) → length (unfinished_text r i) ≤ 118 + 42 * width
unfolding unfinished_text
unfinished_text_most r i =
    let most =
    unfinished_most i (named (state_of r i)) (waiting_of r i) (unwritten_of r i) (held_until r i) (due_time r i) in
    ⊎_elim (λ t. rw t (omega arith)) (λ f. rw f (omega arith)) (look (eqb (state_of r i) done))

count_most : (count : ℕ) → length (count_line count) ≤ 5
unfolding count_line
count_most count =
    simp length-append (omega (arith, byte_length (count / 256), byte_length (count % 256)))

call_most : (c : Call) → length (call_line c) ≤ 9
unfolding call_line
call_most c =
    simp length-append (omega (arith, byte_length c.kind, byte_length c.a, byte_length c.b))

-- ---- all lines of a kind
pub routers_most : (r : Record) (k : ℕ) → length (router_lines r k) ≤ 133 * k
unfolding router_lines
routers_most r zero = omega arith
routers_most r (suc k) =
    let last =
    router_most k (get_or r.ranks k 0) (get_or r.waiting k 0) (get_or r.telling k 0) (get_or r.due k 0)
    in
    simp length-append (omega (arith, routers_most r k))

pub steps_most : (k : ℕ) (l : List Reply) → length (step_lines k l) ≤ 55 * length l
unfolding step_lines
steps_most k [] = omega arith
steps_most k (x ∷ l) = simp length-append (omega (arith, step_most k x, steps_most (k + 1) l))

module _ (d h e g : List ℕ) where
  row_most : (i k : ℕ) → length (row_lines d h e g i k) ≤ 148 * k
  unfolding row_lines
  row_most i zero = omega arith
  row_most i (suc k) = simp length-append (omega (arith, row_most i k, pair_most i k (path d h i k) (path e g i k)))

  pub routes_most : (n k : ℕ) → n ≤ width → length (route_lines d h e g n k) ≤ 148 * width * k
  unfolding route_lines
  routes_most n zero b = omega arith
  routes_most n (suc k) b = simp length-append (omega (arith, routes_most n k b, row_most k n))

pub turns_most : (r : Record) (places : List ℕ) (k : ℕ) → length (turn_lines r places k) ≤ (67 + 42 * width) * k
unfolding turn_lines
turns_most r places zero = omega arith
turns_most r places (suc k) =
    let a = get_or places k 0 in
    simp length-append (omega (arith, turns_most r places k, turn_most (k + 1) a (due_of r a) (telling_of r a)))

pub unfinished_lines_most : (r : Record) (k : ℕ) → length (unfinished_lines r k) ≤ (118 + 42 * width) * k
unfolding unfinished_lines
unfinished_lines_most r zero = omega arith
unfinished_lines_most r (suc k) =
    simp length-append (omega (arith, unfinished_lines_most r k, unfinished_text_most r k))

calls_most : (calls : List Call) → length (call_lines calls) ≤ 9 * length calls
unfolding call_lines
calls_most [] = omega arith
calls_most (c ∷ cs) = simp length-append (omega (arith, call_most c, calls_most cs))

pub section_most : (calls : List Call) → length (step_section calls) ≤ 5 + 9 * most_steps
unfolding step_section
section_most calls = by_count (look (leb (length calls) most_steps))
  where
    by_count :
        (leb (length calls) most_steps ≡ true) ⊎ (leb (length calls) most_steps ≡ false)
        → length (step_section calls) ≤ 5 + 9 * most_steps
    by_count (inl t) =
        let few = leb-true (length calls) most_steps t in
        rw t (simp length-append (omega (arith, count_most (length calls), calls_most calls)))
    by_count (inr f) = rw f (omega (arith, line_most (word "too many steps: ") (length calls)))
