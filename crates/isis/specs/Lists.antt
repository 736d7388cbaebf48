-- Lists of entries, one for each router, router 0's first, each behind its length in two bytes (02, No. 6). d is all of
-- the lists, as bytes; t is the table of identities.
use Rattle.std.specs.Prelude.{ℕ, zero, suc, ◌+◌, min, not, List, [], ◌∷◌, ltb, eqb, length, take, drop, Ok, Err}
use Rattle.area.specs.Bytes.{two}
use Rattle.area.specs.Limits.{unused}
use Rattle.area.specs.Refusals.{refusal_number, incomplete, self_link, bad_metric, unknown_identity}
use Rattle.area.specs.Tests.{pick, or_then}
use Rattle.tlv.specs.declared.Neighbour.{Neighbour}
use Rattle.tlv.specs.Items.{Read, items}
use Rattle.isis.specs.Identities.{is_known, is_of}

-- ---- the entries of one list
-- The refusal of an entry in the list of router i: its identity is not in the table, it is that of the list's own
-- router, or the metric is 0.
unfoldable pub neighbour_refusal : (t : List ℕ) (i : ℕ) (x : Neighbour) → ℕ
neighbour_refusal t i x =
    pick (not (is_known t x.identity)) unknown_identity
    (pick (is_of t x.identity i) self_link
    (pick (eqb x.metric 0) bad_metric
    0))

-- that of what stands in the list; 31 and 32 are those of the item itself
abbrev pub item_refusal : (t : List ℕ) (i : ℕ) (x : Read) → ℕ
item_refusal t i (Ok x) = neighbour_refusal t i x
item_refusal t i (Err k) = refusal_number k

-- the first refusal of items
unfoldable pub items_refusal : (t : List ℕ) (i : ℕ) (l : List Read) → ℕ
items_refusal t i [] = 0
items_refusal t i (x ∷ l) = or_then (item_refusal t i x) (items_refusal t i l)

-- the lower of v and the metric that an item gives router j; v where it gives none
abbrev pub lowered : (t : List ℕ) (j v : ℕ) (x : Read) → ℕ
lowered t j v (Ok x) = pick (is_of t x.identity j) (min v x.metric) v
lowered t j v (Err k) = v

-- the lowest of v and of all metrics that the items give router j, under whichever identity
unfoldable pub lowest_to : (t : List ℕ) (j v : ℕ) (l : List Read) → ℕ
lowest_to t j v [] = v
lowest_to t j v (x ∷ l) = lowest_to t j (lowered t j v x) l

-- ---- one list after another
-- where the length of list i stands
unfoldable pub length_at : (d : List ℕ) (i : ℕ) → ℕ
length_at d zero = 0
length_at d (suc i) = length_at d i + 2 + two d (length_at d i)

-- the bytes of list i
abbrev pub list_of : (d : List ℕ) (i : ℕ) → List ℕ
list_of d i = take (two d (length_at d i)) (drop (length_at d i + 2) d)

-- The refusal of list i: it is not all there, or the first of its entries. A byte that is not there counts as 0, so a
-- length that is cut short announces more than there is.
unfoldable pub list_refusal : (t d : List ℕ) (i : ℕ) → ℕ
list_refusal t d i =
    pick (ltb (length d) (length_at d (suc i))) incomplete
    (items_refusal t i (items (list_of d i)))

-- the metric that list i gives router j; `unused` where it gives none
unfoldable pub listed_to : (t d : List ℕ) (i j : ℕ) → ℕ
listed_to t d i j = lowest_to t j unused (items (list_of d i))

-- ---- how many lists there are
-- how many of at most h lists begin at place p or behind it
unfoldable pub count_from : (d : List ℕ) (h p : ℕ) → ℕ
count_from d zero p = 0
count_from d (suc h) p = pick (ltb p (length d)) (suc (count_from d h (p + 2 + two d p))) 0

-- how many lists begin in d: the last may not be all there
unfoldable pub list_count : (d : List ℕ) → ℕ
list_count d = count_from d (length d) 0
