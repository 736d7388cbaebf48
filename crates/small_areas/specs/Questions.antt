-- What can be asked of a bench file f, and what the definitions answer: Read's on the file, then those of Paths, Plan,
-- Step, the running sheet and the count of calls on what Read gives; those of the old reader and of the rewriting, on
-- the file as a stored one; and those of the reader of IS-IS data, where the file is its lists.
use Rattle.std.specs.Prelude.{ℕ, ◌*◌, List, ◌∷◌, get_or, take, replicate}
use Rattle.area.specs.Limits.{width}
use Rattle.area.specs.Tests.{or_then, all, first, lowest}
use Rattle.area.specs.Sizes.{is_router_count, is_table}
use Rattle.area.specs.Tables.{cell, build, tabulate, per_router}
use Rattle.sets.specs.Sets.{bit, set_of, added, removed, without, subset}
use Rattle.sets.specs.Counts.{total, size}
use Rattle.entries.specs.Entries.{entry_count, entry_of, is_free, entry_refusal, listed_refusal, listed_metric}
use Rattle.topology.specs.Topology.{is_link, topology}
use Rattle.topology.specs.Distance.{sums, least}
use Rattle.topology.specs.NextHops.{is_next, next_hops}
use Rattle.paths.specs.Paths.{PathTables, is_metric, are_metrics, are_paths, paths_refusal, filled_paths, paths_of}
use Rattle.topology.specs.Cells.{distance_cell, hop_cell, four_cell}
use Rattle.ranks.specs.Rank.{greatest, above, longest, rank}
use Rattle.changes.specs.Root.{is_common}
use Rattle.plan.specs.declared.Record.{Record}
use Rattle.plan.specs.NewMetrics.{new_cell, new_metrics}
use Rattle.plan.specs.Direction.{are_at_most, is_same, is_rise, is_fall}
use Rattle.plan.specs.Waiting.{old_hops, new_hops, old_fours, new_fours, waiting, telling}
use Rattle.plan.specs.Plan.{Tables, are_tables, change_refusal, plan_refusal, is_planned, fresh, blank, record_of}
use Rattle.plan.specs.Plan.{filled, tables_of}
use Rattle.machine.specs.Answers.{Reply, refused}
use Rattle.machine.specs.Machine.{learn, release, must_wait, ready, write, finish, listens, deliver, tick, is_sound}
use Rattle.machine.specs.Machine.{is_kind, reads_a, reads_b, are_routers, call_of, step_of}
use Rattle.machine.specs.Run.{calls_of, run, replies}
use Rattle.needs.specs.Needs as counts
use Rattle.sheet.specs.Sheet.{placed, sheet_of}
use Rattle.bench_file.specs.Sections.{changes, steps}
use Rattle.bench_file.specs.declared.Format.TheVariants.{Old, New}
use Rattle.bench_file.specs.Faults.{most_links, dead_refusal, link_refusal, rest_refusal, file_refusal}
use Rattle.bench_file.specs.Read.{read_refusal, contents, no_contents, contents_of, linked, metrics_by, metrics_of}
use Rattle.rewriting.specs.Live.{live, live_count}
use Rattle.rewriting.specs.Rewriting.{rewritten, written}
use Rattle.tlv.specs.Items.{item_at, items_from, items_at}
use Rattle.isis.specs.Identities.{rows_refusal, row_of, is_of}
use Rattle.isis.specs.Lists.{neighbour_refusal, items_refusal, lowest_to, length_at, list_refusal, listed_to}
use Rattle.isis.specs.Isis.{lists_refusal, area_refusal, isis_refusal, listed, no_links, isis_metrics}
use Rattle.text.specs.Text.{digits, decimal, field, line, refused_line}
use Rattle.report.specs.Lines.{router_line, router_lines, answer_text, step_line, step_lines}
use Rattle.report.specs.Report.{rehearsal}

pub data Question : Type 0 where
  -- the number with which Read refuses the file, or else Plan; 0 where the change is planned
  refusal : Question
  -- the plan's root, and the rank and the waiting set of each router, in the routers' order; what is due at router r
  root : Question
  ranks : Question
  waits : Question
  due : (r : ℕ) → Question
  -- the distance from i to j over the links of the file, whatever its changes, and the full next-hop set of (i, j) and
  -- its set of four
  distance : (i j : ℕ) → Question
  set : (i j : ℕ) → Question
  four : (i j : ℕ) → Question
  -- distance and full set by a metric table of n routers, which need not be that of a file
  distance_by : (n : ℕ) (table : List ℕ) (i j : ℕ) → Question
  set_by : (n : ℕ) (table : List ℕ) (i j : ℕ) → Question
  -- the running sheet, all of its entries: the routers in their order, and then zeros
  sheet : Question
  -- the times of the plan's record, and those of the record after all steps: hold time, step time, clock, and the learn
  -- time of each router; and the time from which on router r waits no longer, after all steps
  times : Question
  times_after : Question
  due_time : (r : ℕ) → Question
  -- the plan's full set of (i, j) before the change, and after it; and its sets of four
  old_set : (i j : ℕ) → Question
  new_set : (i j : ℕ) → Question
  old_four : (i j : ℕ) → Question
  new_four : (i j : ℕ) → Question
  -- the reply to step k, counted from 1, and the replies to all steps
  step : (k : ℕ) → Question
  all_steps : Question
  -- how many calls the change needs, and how many of them are missing after all steps
  needs : Question
  missing : Question
  -- all that the rehearsal prints
  printed : Question
  -- the number with which the old reader refuses the file, and what is written for it as a stored file
  old_refusal : Question
  rewrites : Question
  -- the number with which the file is refused as the lists of n routers, beside a table of identities and with a metric
  -- table of so many cells; and the metric from i to j that such a table of the right size then has
  isis : (n : ℕ) (identities : List ℕ) (cells : ℕ) → Question
  isis_metric : (n : ℕ) (identities : List ℕ) (i j : ℕ) → Question

-- what the answer to a question is
abbrev pub Value : (q : Question) → Type 0
Value refusal = ℕ
Value root = ℕ
Value ranks = List ℕ
Value waits = List ℕ
Value (due r) = ℕ
Value sheet = List ℕ
Value times = List ℕ
Value times_after = List ℕ
Value (due_time r) = ℕ
Value (distance i j) = ℕ
Value (set i j) = ℕ
Value (four i j) = ℕ
Value (distance_by n table i j) = ℕ
Value (set_by n table i j) = ℕ
Value (old_set i j) = ℕ
Value (new_set i j) = ℕ
Value (old_four i j) = ℕ
Value (new_four i j) = ℕ
Value (step k) = Reply
Value all_steps = List Reply
Value needs = ℕ
Value missing = ℕ
Value printed = List ℕ
Value old_refusal = ℕ
Value rewrites = List ℕ
Value (isis n identities cells) = ℕ
Value (isis_metric n identities i j) = ℕ

-- tables of the right size, to lend to Read, Paths and Plan
abbrev lent : List ℕ
lent = replicate (width * width) 0

abbrev lent_three : PathTables
lent_three = record { distances = lent; hops = lent; fours = lent }

abbrev lent_seven : Tables
lent_seven = record { metrics = lent; old = lent_three; new = lent_three }

-- ---- what comes of the file
-- Read: the number of routers, the times, and the metric table. Where Read refuses, there is no router, and Paths and
-- Plan refuse in turn.
abbrev routers : (f : List ℕ) → ℕ
routers f = (contents_of f lent).n

abbrev hold : (f : List ℕ) → ℕ
hold f = (contents_of f lent).hold_time

abbrev pace : (f : List ℕ) → ℕ
pace f = (contents_of f lent).step_time

abbrev metrics : (f : List ℕ) → List ℕ
metrics f = metrics_of f lent

-- Paths: its tables
abbrev paths : (f : List ℕ) → PathTables
paths f = paths_of (routers f) (metrics f) lent_three

-- Plan: its refusal, its record and its tables
abbrev refused_by : (f : List ℕ) → ℕ
refused_by f = plan_refusal (routers f) (pace f) (metrics f) (changes f) (are_tables (metrics f) lent_seven)

abbrev planned : (f : List ℕ) → Record
planned f = record_of (routers f) (hold f) (pace f) (metrics f) (changes f) lent_seven

abbrev filled_in : (f : List ℕ) → Tables
filled_in f = tables_of (routers f) (pace f) (metrics f) (changes f) lent_seven

-- Step: the replies to the file's steps, the first of which gets Plan's record
abbrev replied : (f : List ℕ) → List Reply
replied f = replies (planned f) (calls_of (steps New f))

-- and the record after the last of them
abbrev reached : (f : List ℕ) → Record
reached f = run (planned f) (calls_of (steps New f))

-- the times of a record of so many routers
abbrev times_of : (n : ℕ) (r : Record) → List ℕ
times_of n r = r.hold_time ∷ r.step_time ∷ r.clock ∷ take n r.learn_times

-- The answer to a question. A step that the file does not have is `refused 0`: no refusal has this number. The names
-- under the signature are what has to be unfolded to compute it.
unfoldable pub answer : (f : List ℕ) (q : Question) → Value q
unfolding read_refusal file_refusal most_links dead_refusal link_refusal rest_refusal contents_of contents no_contents
    metrics_by linked all first bit set_of added removed without subset is_router_count is_table build tabulate
    per_router entry_count entry_of is_free entry_refusal listed_refusal listed_metric is_link topology sums least
    Rattle.topology.specs.Distance.distance is_next next_hops is_metric are_metrics are_paths paths_refusal
    distance_cell hop_cell four_cell Rattle.sets.specs.Four.four filled_paths paths_of are_at_most is_same is_rise
    is_fall is_common Rattle.changes.specs.Root.root new_cell new_metrics old_hops new_hops old_fours new_fours
    waiting telling Rattle.plan.specs.Waiting.due greatest above longest rank are_tables change_refusal plan_refusal
    is_planned fresh blank filled record_of tables_of learn release must_wait ready write finish listens deliver tick
    is_sound is_kind reads_a reads_b are_routers call_of step_of calls_of run replies lowest placed sheet_of total
    size counts.needs counts.missing digits decimal field line Rattle.prepare.specs.Bench.refusal refused_line
    router_line router_lines answer_text step_line step_lines rehearsal live live_count rewritten written item_at
    items_from items_at rows_refusal row_of is_of neighbour_refusal items_refusal lowest_to length_at list_refusal
    listed_to lists_refusal area_refusal isis_refusal listed no_links isis_metrics
answer f refusal = or_then (read_refusal f lent) (refused_by f)
answer f root = (planned f).root
answer f ranks = take (routers f) (planned f).ranks
answer f waits = take (routers f) (planned f).waiting
answer f (due r) = get_or (planned f).due r 0
answer f sheet = sheet_of (planned f)
answer f times = times_of (routers f) (planned f)
answer f times_after = times_of (routers f) (reached f)
answer f (due_time r) = Rattle.machine.specs.Machine.due_time (reached f) r
answer f (distance i j) = cell width (paths f).distances i j
answer f (set i j) = cell width (paths f).hops i j
answer f (four i j) = cell width (paths f).fours i j
answer f (distance_by n table i j) = cell width (paths_of n table lent_three).distances i j
answer f (set_by n table i j) = cell width (paths_of n table lent_three).hops i j
answer f (old_set i j) = cell width (filled_in f).old.hops i j
answer f (new_set i j) = cell width (filled_in f).new.hops i j
answer f (old_four i j) = cell width (filled_in f).old.fours i j
answer f (new_four i j) = cell width (filled_in f).new.fours i j
answer f (step k) = get_or (refused 0 ∷ replied f) k (refused 0)
answer f all_steps = replied f
answer f needs = counts.needs (planned f)
answer f missing = counts.missing (reached f)
answer f printed = rehearsal f lent lent_seven
answer f old_refusal = file_refusal Old f
answer f rewrites = written f
answer f (isis n identities cells) = isis_refusal n identities f (replicate cells 0)
answer f (isis_metric n identities i j) = cell width (isis_metrics n identities f lent) i j
