-- Areas from IS-IS (02, No. 6), for every n, every table of identities t, all lists d and every metric table m: the
-- answer, and what the metric table holds when the call returns.
use Rattle.std.specs.Prelude.{ℕ, List, ltb, eqb, length}
use Rattle.area.specs.Limits.{width, unused}
use Rattle.area.specs.Refusals.{trailing, router_count, table_size}
use Rattle.area.specs.Tests.{pick, or_then, first}
use Rattle.area.specs.Sizes.{is_router_count, is_table}
use Rattle.area.specs.Tables.{tabulate}
use Rattle.isis.specs.Identities.{rows_refusal}
use Rattle.isis.specs.Lists.{length_at, list_refusal, listed_to}

-- the first refusal of the n lists, and then for bytes behind the last
unfoldable pub lists_refusal : (n : ℕ) (t d : List ℕ) → ℕ
lists_refusal n t d =
    or_then (first n (list_refusal t d))
    (pick (ltb (length_at d n) (length d)) trailing 0)

-- the number of the answer for a metric table of the right size: n, the rows, the lists
unfoldable pub area_refusal : (n : ℕ) (t d : List ℕ) → ℕ
area_refusal n t d =
    pick (is_router_count n)
    (or_then (rows_refusal n t) (lists_refusal n t d))
    router_count

-- the number of the answer
unfoldable pub isis_refusal : (n : ℕ) (t d m : List ℕ) → ℕ
isis_refusal n t d m = pick (is_table m) (area_refusal n t d) table_size

-- the metric table of the n lists: a row for each router of the area, and no link elsewhere
unfoldable pub listed : (n : ℕ) (t d : List ℕ) → List ℕ
listed n t d = tabulate width (λ i j. pick (ltb i n) (listed_to t d i j) unused)

-- a metric table without a link
unfoldable pub no_links : List ℕ
no_links = tabulate width (λ i j. unused)

-- The metric table at exit: as it was where its size is wrong; and else that of the lists where they are accepted, and
-- no link where they are refused.
unfoldable pub isis_metrics : (n : ℕ) (t d m : List ℕ) → List ℕ
isis_metrics n t d m =
    pick (is_table m)
    (pick (eqb (area_refusal n t d) 0) (listed n t d)
    no_links)
    m
