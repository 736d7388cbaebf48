-- The running sheet (02, No. 1): the routers in an order in which they can be upgraded, each after all that it waits
-- for, and of those that could come next always the lowest number. There are n routers; w r is the set of those that r
-- waits for.
--     could_come, next_after     who could come after the routers of a set, and who does
--     placed, place_at          the first k routers of the sheet, and the router at place k
--     sheet_of                  the sheet of a record, as a table per router
--     IsSheet                  what the request asks of a sheet; SheetLaws.antt shows it of `sheet_of`
use Rattle.std.specs.Prelude.{ℕ, zero, suc, ◌≤◌, ◌<◌, ◌≡◌, Bool, true, not, ◌&&◌, ◌⊎◌, List, leb, length, get_or}
use Rattle.area.specs.Limits.{width}
use Rattle.area.specs.Tests.{pick, lowest}
use Rattle.area.specs.Tables.{per_router}
use Rattle.sets.specs.Sets.{bit, added, subset}
use Rattle.plan.specs.declared.Record.{Record}
use Rattle.plan.specs.Plan.{zeros}
use Rattle.machine.specs.Machine.{waiting_of}

-- r could come next after the routers of the set s: it is none of them, and all that it waits for are.
abbrev pub could_come : (w : ℕ → ℕ) (s r : ℕ) → Bool
could_come w s r = not (bit s r) && subset width (w r) s

-- the lowest of those that could come next; n where none could
abbrev pub next_after : (n : ℕ) (w : ℕ → ℕ) (s : ℕ) → ℕ
next_after n w s = lowest n (could_come w s)

-- the set of the first k routers of the sheet
unfoldable pub placed : (n : ℕ) (w : ℕ → ℕ) (k : ℕ) → ℕ
placed n w zero = 0
placed n w (suc k) = added width (placed n w k) (next_after n w (placed n w k))

-- the router at place k, counted from 0
abbrev pub place_at : (n : ℕ) (w : ℕ → ℕ) (k : ℕ) → ℕ
place_at n w k = next_after n w (placed n w k)

-- The sheet of a record: a router for each of its n places, and 0 from there on. The record of a refusal has no
-- routers, so its sheet is all zeros. A record with more routers than a table has entries has no sheet.
unfoldable pub sheet_of : (r : Record) → List ℕ
sheet_of r = pick (leb r.n width) (per_router width r.n (place_at r.n (waiting_of r))) zeros

-- ---- what is asked of a sheet
-- r stands before place k
abbrev pub Before : (sheet : List ℕ) (k r : ℕ) → Type 0
Before sheet k r = (j : ℕ) × (j < k) × (get_or sheet j 0 ≡ r)

-- A list is the running sheet of n routers, where r waits for the set w r.
pub record IsSheet (n : ℕ) (w : ℕ → ℕ) (sheet : List ℕ) : Type 0 where
  pub size : length sheet ≡ width
  -- each of the n places holds a router, and 0 stands from there on
  pub router : (k : ℕ) → k < n → get_or sheet k 0 < n
  pub rest : (k : ℕ) → n ≤ k → get_or sheet k 0 ≡ 0
  -- every router stands on it, and none stands twice
  pub all : (r : ℕ) → r < n → Before sheet n r
  pub once : (j k : ℕ) → j < n → k < n → get_or sheet j 0 ≡ get_or sheet k 0 → j ≡ k
  -- a router stands after all that it waits for
  pub after : (k s : ℕ) → k < n → bit (w (get_or sheet k 0)) s ≡ true → Before sheet k s
  -- and it is the lowest number that could come: a lower one stands before it, or waits for one that does not
  pub lowest : (k r : ℕ) → k < n → r < get_or sheet k 0
      → Before sheet k r ⊎ ((s : ℕ) × (bit (w r) s ≡ true) × (Before sheet k s → ⊥))
