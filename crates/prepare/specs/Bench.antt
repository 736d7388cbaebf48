-- What a bench file gives before its first step: Read, and then Plan (01, "The rehearsal").
-- f is the file, m the table that Read is lent, and t are the tables that Plan is lent.
use Rattle.std.specs.Prelude.{ℕ, ◌*◌, List, eqb, take, drop}
use Rattle.area.specs.Tests.{pick, or_then}
use Rattle.plan.specs.declared.Record.{Record}
use Rattle.plan.specs.Plan.{Tables, are_tables, plan_refusal, fresh, blank, filled}
use Rattle.bench_file.specs.Sections.{routers, link_count, links, changes, hold_time, step_time}
use Rattle.bench_file.specs.declared.Format.TheVariants.{New}
use Rattle.bench_file.specs.declared.Contents.{Contents}
use Rattle.bench_file.specs.Read.{read_refusal, linked}

-- the metrics of the file's links
abbrev pub metrics : (f : List ℕ) → List ℕ
metrics f = linked (links f) (link_count f)

-- the number of Read's refusal, and then of Plan's; 0 where neither refuses
unfoldable pub refusal : (f m : List ℕ) (t : Tables) → ℕ
refusal f m t =
    or_then (read_refusal f m)
    (plan_refusal (routers f) (step_time New f) (metrics f) (changes f) (are_tables (metrics f) t))

-- Plan's record, and the tables that it fills, of a file that is not refused
abbrev pub planned : (f : List ℕ) → Record
planned f = fresh (routers f) (hold_time New f) (step_time New f) (metrics f) (changes f)

abbrev pub filled_tables : (f : List ℕ) → Tables
filled_tables f = filled (routers f) (metrics f) (changes f)

-- what is handed back and left for every file: zeros and the tables as they were, where it is refused
unfoldable pub record_at : (f m : List ℕ) (t : Tables) → Record
record_at f m t = pick (eqb (refusal f m t) 0) (planned f) blank

unfoldable pub tables_at : (f m : List ℕ) (t : Tables) → Tables
tables_at f m t = pick (eqb (refusal f m t) 0) (filled_tables f) t

-- ---- what the code hands on to Plan
-- the part of a file that holds its changes, by what it says of itself
abbrev pub listed : (f : List ℕ) (c : Contents) → List ℕ
listed f c = take (5 * c.changes.count) (drop c.changes.at f)
