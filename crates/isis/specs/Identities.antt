-- The table of identities (02, No. 6): rows of eight bytes, seven of identity and one with the number of a router. t is
-- the table, a list of bytes.
use Rattle.std.specs.Prelude.{ℕ, ◌+◌, ◌*◌, ◌/◌, ◌%◌, ◌<◌, Bool, ◌&&◌, List, ltb, eqb, length, get_or}
use Rattle.std.specs.Prelude.{Option, Some, None}
use Rattle.area.specs.Refusals.{incomplete, unknown_router}
use Rattle.area.specs.Tests.{pick, or_then, first, lowest}
use Rattle.tlv.specs.Items.{seven}

-- how many whole rows the table has
abbrev pub row_count : (t : List ℕ) → ℕ
row_count t = length t / 8

-- the identity of row e, and its router
abbrev pub identity_of : (t : List ℕ) (e : ℕ) → ℕ
identity_of t e = seven t (8 * e)

abbrev pub router : (t : List ℕ) (e : ℕ) → ℕ
router t e = get_or t (8 * e + 7) 0

-- The first row with a fault: every whole row has a router below n, whether another has its identity too or not; and
-- after the last whole row nothing is left, which would be a row that is cut short.
unfoldable pub rows_refusal : (n : ℕ) (t : List ℕ) → ℕ
rows_refusal n t =
    or_then (first (row_count t) (λ e. pick (ltb (router t e) n) 0 unknown_router))
    (pick (eqb (length t % 8) 0) 0 incomplete)

-- the first row with the identity x, which counts; `row_count t` where there is none
unfoldable pub row_of : (t : List ℕ) (x : ℕ) → ℕ
row_of t x = lowest (row_count t) (λ e. eqb (identity_of t e) x)

-- the identity x is in the table
abbrev pub is_known : (t : List ℕ) (x : ℕ) → Bool
is_known t x = ltb (row_of t x) (row_count t)

-- the identity x is in the table, and is router j's
unfoldable pub is_of : (t : List ℕ) (x j : ℕ) → Bool
is_of t x j = is_known t x && eqb (router t (row_of t x)) j

-- the router of the identity x, where it is in the table
unfoldable pub router_of : (t : List ℕ) (x : ℕ) → Option ℕ
router_of t x = pick (is_known t x) (Some (router t (row_of t x))) None

-- the routers of the first e rows are below n
abbrev pub RowsIn : (n : ℕ) (t : List ℕ) (e : ℕ) → Type 0
RowsIn n t e = (k : ℕ) → k < e → router t k < n

-- row e has the identity x
abbrev pub has_identity : (t : List ℕ) (x e : ℕ) → Bool
has_identity t x e = eqb (identity_of t e) x
