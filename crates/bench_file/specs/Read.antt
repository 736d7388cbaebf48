-- Read (01, "The bench file"), for every file f and every table t: its answer, what it says of the file, and what the
-- metric table holds when it returns. Read is the reader of the new format; what a reader of either format gives is
-- defined with the format as a parameter.
use Rattle.std.specs.Prelude.{ℕ, List, [], eqb}
use Rattle.area.specs.Limits.{width, unused}
use Rattle.area.specs.Refusals.{table_size}
use Rattle.area.specs.Tests.{pick}
use Rattle.area.specs.Sizes.{is_table}
use Rattle.area.specs.Tables.{tabulate}
use Rattle.entries.specs.Entries.{listed_metric}
use Rattle.bench_file.specs.Sections.{routers, link_count, links, change_count, changes_at}
use Rattle.bench_file.specs.Sections.{hold_time, step_time, step_count, steps_at}
use Rattle.bench_file.specs.Faults.{file_refusal}
use Rattle.bench_file.specs.declared.Format.{Format}
use Rattle.bench_file.specs.declared.Format.TheVariants.{New}
use Rattle.bench_file.specs.declared.Contents.{Contents}
use Rattle.std.specs.Prelude.{◌<◌}
use Rattle.entries.specs.Entries.{from, to}

-- the number of the answer: a table of the wrong size comes before every fault of the file
unfoldable pub read_refusal : (f t : List ℕ) → ℕ
read_refusal f t = pick (is_table t) (file_refusal New f) table_size

-- what an accepted file says of itself, and what is handed back with a refusal
unfoldable pub contents : (format : Format) (f : List ℕ) → Contents
contents format f =
    record {
      n = routers f;
      links = link_count f;
      changes = record { count = change_count f; at = changes_at f };
      steps = record { count = step_count format f; at = steps_at format f };
      hold_time = hold_time format f;
      step_time = step_time format f;
    }

unfoldable pub no_contents : Contents
no_contents =
    record {
      n = 0;
      links = 0;
      changes = record { count = 0; at = 0 };
      steps = record { count = 0; at = 0 };
      hold_time = 0;
      step_time = 0;
    }

unfoldable pub contents_by : (format : Format) (f : List ℕ) → Contents
contents_by format f = pick (eqb (file_refusal format f) 0) (contents format f) no_contents

unfoldable pub contents_of : (f t : List ℕ) → Contents
contents_of f t = pick (eqb (read_refusal f t) 0) (contents New f) no_contents

-- The metric table of the first k links of l: the cell of a pair that none of them lists is `unused`.
unfoldable pub linked : (l : List ℕ) (k : ℕ) → List ℕ
linked l k = tabulate width (λ i j. listed_metric l k i j unused)

-- The table at exit: as it was where its size is wrong; and else that of the links where the file is accepted, and no
-- link where it is refused.
unfoldable pub metrics_by : (format : Format) (f t : List ℕ) → List ℕ
metrics_by format f t =
    pick (is_table t)
    (pick (eqb (file_refusal format f) 0) (linked (links f) (link_count f))
    (linked [] 0))
    t

-- that of Read
abbrev pub metrics_of : (f t : List ℕ) → List ℕ
metrics_of f t = metrics_by New f t

-- the ends of the first k links have a row and a column of a table
abbrev pub InTable : (l : List ℕ) (k : ℕ) → Type 0
InTable l k = (e : ℕ) → e < k → (from l e < width) × (to l e < width)
