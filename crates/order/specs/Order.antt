-- Who waits for whom, who tells whom, and what is due (01, "The plan"), among n routers with the root c.
-- o i j is a set of next hops from i to j before the change, p i j the set after it: who waits and tells is decided by
-- the full sets, and what is due by the sets of four (02, No. 9).
use Rattle.std.specs.Prelude.{ℕ, Bool, not, ◌&&◌, List, ltb, leb, eqb, replicate}
use Rattle.area.specs.Limits.{width}
use Rattle.area.specs.Tests.{pick}
use Rattle.area.specs.Sizes.{is_table}
use Rattle.area.specs.Tables.{cell, per_router}
use Rattle.sets.specs.Sets.{bit, set_of}
use Rattle.ranks.specs.Rank.{rank}
use Rattle.order.specs.declared.Order.{Order}

-- The routers that r waits for. In a rise: those whose old next hops to the root hold r. In a fall: its own new next
-- hops to the root.
abbrev pub waiting_by : (n c : ℕ) (rising : Bool) (o p : ℕ → ℕ → ℕ) (r : ℕ) → ℕ
waiting_by n c rising o p r = pick rising (set_of n (λ s. bit (o s c) r)) (p r c)

-- The routers that r tells: those that wait for it. w s is the set of routers that s waits for.
abbrev pub telling_by : (n : ℕ) (w : ℕ → ℕ) (r : ℕ) → ℕ
telling_by n w r = set_of n (λ s. bit (w s) r)

-- the destinations that are due at r: those to which its set changes
abbrev pub due_by : (n : ℕ) (o p : ℕ → ℕ → ℕ) (r : ℕ) → ℕ
due_by n o p r = set_of n (λ d. not (eqb (o r d) (p r d)))

-- The order by the tables of the full sets, as the struct of src/lib.rt: each array is a list.
unfoldable pub ordered : (n c : ℕ) (rising : Bool) (old new : List ℕ) → Order
ordered n c rising old new =
    record {
      waiting = per_router width n (waiting_by n c rising (cell width old) (cell width new));
      telling = per_router width n (telling_by n (waiting_by n c rising (cell width old) (cell width new)));
      ranks = per_router width n (rank n (waiting_by n c rising (cell width old) (cell width new)));
    }

-- 0 for every router
unfoldable pub no_order : Order
no_order = record {
  waiting = replicate width 0;
  telling = replicate width 0;
  ranks = replicate width 0;
}

-- The tables can be read for every router and the root: these are below the width, and both tables have their size.
unfoldable pub is_orderable : (n c : ℕ) (old new : List ℕ) → Bool
is_orderable n c old new = leb n width && (ltb c width && (is_table old && is_table new))

unfoldable pub order_of : (n c : ℕ) (rising : Bool) (old new : List ℕ) → Order
order_of n c rising old new = pick (is_orderable n c old new) (ordered n c rising old new) no_order

-- What is due by the tables of the sets of four; 0 for every router where these cannot be read.
unfoldable pub due_table : (n : ℕ) (old new : List ℕ) → List ℕ
due_table n old new =
    pick (leb n width && (is_table old && is_table new))
    (per_router width n (due_by n (cell width old) (cell width new)))
    (replicate width 0)
