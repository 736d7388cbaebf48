-- The lines that the programs print, as bytes: those of the rehearsal (01, "The rehearsal"; 02, No. 8), and those of
-- the routes, of the running sheet and of what is left after the last step, which are our own (docs/DECISIONS.md).
use Rattle.std.specs.Prelude.{ℕ, zero, suc, ◌+◌, ◌/◌, ◌%◌, Bool, not, ◌&&◌, List, [], ◌∷◌}
use Rattle.std.specs.Prelude.{◌++◌, eqb, leb, length, get_or}
use Rattle.area.specs.Limits.{width, unreached, most_steps}
use Rattle.area.specs.Tests.{pick}
use Rattle.area.specs.Tables.{cell}
use Rattle.sets.specs.Sets.{bit}
use Rattle.plan.specs.declared.Record.{Record}
use Rattle.machine.specs.Answers.{Reply, ok, ignored, refused}
use Rattle.machine.specs.declared.states.State.{State}
use Rattle.machine.specs.declared.states.State.TheVariants.{Idle, Holding, Ongoing, Done}
use Rattle.machine.specs.Machine.{done, state_of, waiting_of, due_of, telling_of, held_until, due_time}
use Rattle.machine.specs.States.{named}
use Rattle.machine.specs.Run.{Call, run, replies, calls_of}
use Rattle.needs.specs.Needs.{needs, unwritten_of, missing}
use Rattle.sheet.specs.Sheet.{sheet_of}
use Rattle.text.specs.Text.{word, field, line, refused_line}
use Rattle.hexadecimal.specs.Digits.{hex_byte}
use Rattle.report.specs.declared.lines.Path.{Path}

-- ---- the rehearsal
-- router i, with its rank and its waiting, telling and due sets
unfoldable pub router_line : (i rank waits tells due : ℕ) → List ℕ
router_line i rank waits tells due =
    field (word "router ") i ++
    (field (word " rank ") rank ++
    (field (word " waits ") waits ++
    (field (word " tells ") tells ++
    line (word " due ") due)))

-- router k of a record
abbrev pub router_line_of : (r : Record) (k : ℕ) → List ℕ
router_line_of r k =
    router_line k (get_or r.ranks k 0) (get_or r.waiting k 0) (get_or r.telling k 0) (get_or r.due k 0)

-- the first k routers of a record
unfoldable pub router_lines : (r : Record) (k : ℕ) → List ℕ
router_lines r zero = []
router_lines r (suc k) = router_lines r k ++ router_line_of r k

-- an answer, up to the end of its line
unfoldable pub answer_text : (answer : Reply) → List ℕ
answer_text ok = word " ok\n"
answer_text ignored = word " ignored\n"
answer_text (refused k) = word " " ++ refused_line k

-- step k
unfoldable pub step_line : (k : ℕ) (answer : Reply) → List ℕ
step_line k answer = field (word "step ") k ++ answer_text answer

-- the steps with these answers, counted from k on
unfoldable pub step_lines : (k : ℕ) (answers : List Reply) → List ℕ
step_lines k [] = []
step_lines k (x ∷ l) = step_line k x ++ step_lines (k + 1) l

-- All of a rehearsal: the routers of a record, what the change needs, the steps that the bytes stand for, and an end.
abbrev pub rehearsal_lines : (r : Record) (bytes : List ℕ) → List ℕ
rehearsal_lines r bytes =
    router_lines r r.n ++
    (line (word "needs ") (needs r) ++
    (step_lines 1 (replies r (calls_of bytes)) ++
    word "end\n"))

-- ---- the routes
-- a distance and the full next-hop set by which it is reached, or that there is no walk
unfoldable pub path_text : (p : Path) → List ℕ
path_text p =
    pick (eqb p.distance unreached)
    (word " none")
    (field (word " ") p.distance ++ field (word " via ") p.hops)

-- the pair (i, j), with its path before the change, and after it
unfoldable pub route_line : (i j : ℕ) (before after : Path) → List ℕ
route_line i j before after =
    field (word "route ") i ++
    (field (word " ") j ++
    (word " old" ++
    (path_text before ++
    (word " new" ++
    (path_text after ++
    word "\n")))))

-- Nothing is printed of a router and itself, and of a pair that has a walk neither before the change nor after it.
unfoldable pub is_printed : (i j : ℕ) (before after : Path) → Bool
is_printed i j before after =
    not (eqb i j) && not (eqb before.distance unreached && eqb after.distance unreached)

-- the line of a pair, or nothing
unfoldable pub pair_text : (i j : ℕ) (before after : Path) → List ℕ
pair_text i j before after = pick (is_printed i j before after) (route_line i j before after) []

-- the path of a pair, by the tables of the distances and of the next-hop sets
abbrev pub path : (distances hops : List ℕ) (i j : ℕ) → Path
path distances hops i j = record { distance = cell width distances i j; hops = cell width hops i j }

-- all pairs by the tables of distances and full sets: d and h before the change, e and g after it
module _ (d h e g : List ℕ) where
  -- the pairs of router i with the first k routers
  unfoldable pub row_lines : (i k : ℕ) → List ℕ
  row_lines i zero = []
  row_lines i (suc k) = row_lines i k ++ pair_text i k (path d h i k) (path e g i k)

  -- the pairs of the first k routers with each of n routers
  unfoldable pub route_lines : (n k : ℕ) → List ℕ
  route_lines n zero = []
  route_lines n (suc k) = route_lines n k ++ row_lines k n

  -- All of the routes of n routers: that the sets are full ones (02, No. 9), and the lines of all pairs.
  abbrev pub routes_lines : (n : ℕ) → List ℕ
  routes_lines n = word "full next-hop sets\n" ++ route_lines n n

-- ---- the running sheet (02, No. 1)
-- router k after a space, where it is a member of a set
unfoldable pub member_word : (set k : ℕ) → List ℕ
member_word set k = pick (bit set k) (field (word " ") k) []

-- the members of a set that are below k
unfoldable pub member_text : (set k : ℕ) → List ℕ
member_text set zero = []
member_text set (suc k) = member_text set k ++ member_word set k

-- the members of a set, or that it has none
unfoldable pub set_text : (set : ℕ) → List ℕ
set_text set = pick (eqb set 0) (word " none") (member_text set width)

-- turn k: router a writes the destinations of one set, and its message goes to the routers of another
unfoldable pub turn_line : (k a writes tells : ℕ) → List ℕ
turn_line k a writes tells =
    field (word "turn ") k ++
    (field (word " router ") a ++
    (word " writes" ++
    (set_text writes ++
    (word " tells" ++
    (set_text tells ++
    word "\n")))))

-- turn k of router a of a record: it writes what it has due, and its message goes to those that it tells
abbrev pub turn_line_of : (r : Record) (k a : ℕ) → List ℕ
turn_line_of r k a = turn_line k a (due_of r a) (telling_of r a)

-- the first k turns, counted from 1, of the routers at these places
unfoldable pub turn_lines : (r : Record) (places : List ℕ) (k : ℕ) → List ℕ
turn_lines r places zero = []
turn_lines r places (suc k) = turn_lines r places k ++ turn_line_of r (k + 1) (get_or places k 0)

-- all turns of a record's sheet, and an end
abbrev pub sheet_lines : (r : Record) → List ℕ
sheet_lines r = turn_lines r (sheet_of r) r.n ++ word "end\n"

-- ---- what is left after the last step (02, No. 8)
-- the name of a state
unfoldable pub state_word : (s : State) → List ℕ
state_word Idle = word " idle"
state_word Holding = word " holding"
state_word Ongoing = word " ongoing"
state_word Done = word " done"

-- until when a router holds, in the state in which it does (02, No. 10)
unfoldable pub hold_text : (s : State) (until : ℕ) → List ℕ
hold_text Idle until = []
hold_text Holding until = field (word " holds until ") until
hold_text Ongoing until = []
hold_text Done until = []

-- when the timer lets a router go that has learned and waits for others
unfoldable pub last_wait : (s : State) (due : ℕ) → List ℕ
last_wait Idle due = []
last_wait Holding due = field (word " waits until ") due
last_wait Ongoing due = field (word " waits until ") due
last_wait Done due = []

unfoldable pub wait_text : (s : State) (waits due : ℕ) → List ℕ
wait_text s waits due = pick (eqb waits 0) [] (last_wait s due)

-- router i in a state, with the routers that it still waits for, what is due there and unwritten, and its times
unfoldable pub unfinished_line : (i : ℕ) (s : State) (waits unwritten until due : ℕ) → List ℕ
unfinished_line i s waits unwritten until due =
    field (word "router ") i ++
    (state_word s ++
    (word " waits" ++
    (set_text waits ++
    (word " unwritten" ++
    (set_text unwritten ++
    (hold_text s until ++
    (wait_text s waits due ++
    word "\n")))))))

-- router i of a record; one that is done has no line
unfoldable pub unfinished_text : (r : Record) (i : ℕ) → List ℕ
unfinished_text r i =
    pick (eqb (state_of r i) done) []
    (unfinished_line i (named (state_of r i)) (waiting_of r i) (unwritten_of r i) (held_until r i) (due_time r i))

-- the first k routers of a record
unfoldable pub unfinished_lines : (r : Record) (k : ℕ) → List ℕ
unfinished_lines r zero = []
unfinished_lines r (suc k) = unfinished_lines r k ++ unfinished_text r k

-- what is left after the steps that the bytes stand for: a line for each router that is not done, and how many answers
-- "ok" are still to come
abbrev pub unfinished_after : (r : Record) (bytes : List ℕ) → List ℕ
unfinished_after r bytes =
    let last = run r (calls_of bytes) in
    unfinished_lines last r.n ++ line (word "missing ") (missing last)

-- ---- calls, as the step section of a bench file in hexadecimal (01, "The bench file")
-- the count of steps, two bytes with the high byte first
unfoldable pub count_line : (count : ℕ) → List ℕ
count_line count = hex_byte (count / 256) ++ (hex_byte (count % 256) ++ word "\n")

-- a call: its kind, a and b
unfoldable pub call_line : (c : Call) → List ℕ
call_line c =
    hex_byte c.kind ++
    (word " " ++
    (hex_byte c.a ++
    (word " " ++
    (hex_byte c.b ++
    word "\n"))))

-- a line for each call
unfoldable pub call_lines : (calls : List Call) → List ℕ
call_lines [] = []
call_lines (c ∷ cs) = call_line c ++ call_lines cs

-- The section: the count and the calls; or how many they are, where a file may not hold as many.
unfoldable pub step_section : (calls : List Call) → List ℕ
step_section calls =
    pick (leb (length calls) most_steps)
    (count_line (length calls) ++ call_lines calls)
    (line (word "too many steps: ") (length calls))
