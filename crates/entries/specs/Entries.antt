-- Entries of five bytes, as links and changes are listed (01, "The plan", "The bench file"): from, to, and the metric
-- in three bytes, high byte first. An entry is named by its place e in the list l, counted from 0.
use Rattle.std.specs.Prelude.{ℕ, zero, suc, ◌+◌, ◌*◌, ◌/◌, Bool, not, ◌&&◌, List, ltb, eqb, length, get_or}
use Rattle.area.specs.Refusals.{unknown_router, self_link, bad_metric, repeated}
use Rattle.area.specs.Tests.{pick, all, or_then}
use Rattle.entries.specs.declared.Entry.{Entry}

-- how many whole entries a list of bytes has
unfoldable pub entry_count : (l : List ℕ) → ℕ
entry_count l = length l / 5

-- entry e of the list; all 0 where the list has no such entry
unfoldable pub entry_of : (l : List ℕ) (e : ℕ) → Entry
entry_of l e =
    pick (ltb e (entry_count l))
    (record {
      from = get_or l (5 * e) 0;
      to = get_or l (5 * e + 1) 0;
      metric = 65536 * get_or l (5 * e + 2) 0 + 256 * get_or l (5 * e + 3) 0 + get_or l (5 * e + 4) 0;
    })
    (record { from = 0; to = 0; metric = 0 })

-- the ends of the entry, and its metric
abbrev pub from : (l : List ℕ) (e : ℕ) → ℕ
from l e = (entry_of l e).from

abbrev pub to : (l : List ℕ) (e : ℕ) → ℕ
to l e = (entry_of l e).to

abbrev pub metric : (l : List ℕ) (e : ℕ) → ℕ
metric l e = (entry_of l e).metric

-- the entry is of the pair (i, j)
abbrev pub is_for_pair : (l : List ℕ) (e i j : ℕ) → Bool
is_for_pair l e i j = eqb (from l e) i && eqb (to l e) j

-- none of the first k entries is of the pair (i, j)
unfoldable pub is_free : (l : List ℕ) (k i j : ℕ) → Bool
is_free l k i j = all k (λ d. not (is_for_pair l d i j))

-- no entry before e is of the pair of the entry at e
abbrev pub is_first : (l : List ℕ) (e : ℕ) → Bool
is_first l e = is_free l e (from l e) (to l e)

-- ---- faults
-- The number of the refusal of an entry by itself, in an area of n routers: the first that applies, 0 where none does.
unfoldable pub entry_refusal : (n : ℕ) (x : Entry) → ℕ
entry_refusal n x =
    pick (not (ltb x.from n && ltb x.to n)) unknown_router
    (pick (eqb x.from x.to) self_link
    (pick (eqb x.metric 0) bad_metric
    0))

-- the same of the entry at e, which may not be of the pair of one before it
unfoldable pub listed_refusal : (n : ℕ) (l : List ℕ) (e : ℕ) → ℕ
listed_refusal n l e = or_then (entry_refusal n (entry_of l e)) (pick (is_first l e) 0 repeated)

-- ---- metrics
-- the metric that the first k entries give the pair (i, j), and v where none of them is of it
unfoldable pub listed_metric : (l : List ℕ) (k i j v : ℕ) → ℕ
listed_metric l zero i j v = v
listed_metric l (suc k) i j v = pick (is_for_pair l k i j) (metric l k) (listed_metric l k i j v)
