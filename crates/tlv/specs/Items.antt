-- A list of extended IS reachability entries (TLV 22 of RFC 5305; 02, No. 6) as bytes, one entry after another:
--
--     identity of the neighbour   metric   how many bytes of sub-TLVs   sub-TLVs ..
--                 7                 3                  1                 0 to 244      bytes
--
-- The sub-TLVs are skipped. `Neighbour` is declared in src/lib.rt.
use Rattle.std.specs.Prelude.{ℕ, zero, suc, ◌+◌, ◌*◌, List, [], ◌∷◌, length, get_or, ltb, leb}
use Rattle.std.specs.Prelude.{Option, Some, None, Result, Ok, Err}
use Rattle.area.specs.Bytes.{three}
use Rattle.area.specs.Tests.{pick}
use Rattle.area.specs.declared.refusal.Refusal.{Refusal}
use Rattle.area.specs.declared.refusal.Refusal.TheVariants.{PastList, LongSubTlvs}
use Rattle.tlv.specs.declared.Neighbour.{Neighbour}

-- what stands at a place: nothing more, an entry, or a fault
abbrev pub Item : Type 0
Item = Result (Option Neighbour) Refusal

-- one of the items of a list: an entry or a fault
abbrev pub Read : Type 0
Read = Result Neighbour Refusal

-- the most bytes of sub-TLVs that an entry may have
abbrev pub most_sub_tlvs : ℕ
most_sub_tlvs = 244

-- an identity as one number: that in its seven bytes, high byte first
abbrev pub seven : (l : List ℕ) (p : ℕ) → ℕ
seven l p =
    281474976710656 * get_or l p 0
    + 1099511627776 * get_or l (p + 1) 0
    + 4294967296 * get_or l (p + 2) 0
    + 16777216 * get_or l (p + 3) 0
    + 65536 * get_or l (p + 4) 0
    + 256 * get_or l (p + 5) 0
    + get_or l (p + 6) 0

-- how many bytes of sub-TLVs the entry at place p has
abbrev pub sub_tlvs : (l : List ℕ) (p : ℕ) → ℕ
sub_tlvs l p = get_or l (p + 10) 0

-- where the entry at place p ends. A byte that is not there counts as 0, so an entry whose first eleven bytes are not
-- all there ends past its list too.
abbrev pub end_of : (l : List ℕ) (p : ℕ) → ℕ
end_of l p = p + 11 + sub_tlvs l p

-- What stands at place p: the end of the list; a fault, where the entry runs past its list, and then where its sub-TLVs
-- are too long; or an entry.
unfoldable pub item_at : (l : List ℕ) (p : ℕ) → Item
item_at l p =
    pick (leb (length l) p) (Ok None)
    (pick (ltb (length l) (end_of l p)) (Err PastList)
    (pick (ltb most_sub_tlvs (sub_tlvs l p)) (Err LongSubTlvs)
    (Ok (Some (record { identity = seven l p; metric = three l (p + 7); next = end_of l p })))))

-- the place behind an item at place p; p itself where that is no entry
abbrev pub behind : (p : ℕ) (x : Item) → ℕ
behind p (Ok None) = p
behind p (Ok (Some x)) = x.next
behind p (Err k) = p

unfoldable pub place_after : (l : List ℕ) (p : ℕ) → ℕ
place_after l p = behind p (item_at l p)

-- ---- one after another
-- an item, and what follows it by the place behind it: nothing after the end of the list or a fault
abbrev pub followed : (x : Item) (rest : ℕ → List Read) → List Read
followed (Ok None) rest = []
followed (Ok (Some x)) rest = Ok x ∷ rest x.next
followed (Err k) rest = Err k ∷ []

-- at most h items from place p on
unfoldable pub items_from : (l : List ℕ) (h p : ℕ) → List Read
items_from l zero p = []
items_from l (suc h) p = followed (item_at l p) (items_from l h)

-- The items from place p on: the entries in their order up to the end of the list, or up to the first fault, which
-- stands last. There are not more of them than bytes.
unfoldable pub items_at : (l : List ℕ) (p : ℕ) → List Read
items_at l p = items_from l (length l) p

-- those of the whole list
abbrev pub items : (l : List ℕ) → List Read
items l = items_at l 0
