-- The bench file of an area of n routers with the metric table m: its links, no change, the hold time 0 and the step
-- time 1, and no step (01, "The bench file"; 02, No. 10); as bytes, and as a text in hexadecimal with a comment in each
-- line.
use Rattle.std.specs.Prelude.{ℕ, zero, suc, ◌*◌, ◌/◌, ◌%◌, Bool, not, ◌&&◌, List, [], ◌∷◌, ◌++◌, eqb, ltb, length}
use Rattle.area.specs.Limits.{width, unused}
use Rattle.area.specs.Tests.{pick}
use Rattle.area.specs.Sizes.{is_router_count, is_table}
use Rattle.entries.specs.declared.Entry.{Entry}
use Rattle.text.specs.Text.{word, field, line}
use Rattle.hexadecimal.specs.Digits.{hexed}
use Rattle.std.specs.Prelude.{get_or, ◌+◌}

-- ---- the links
abbrev pub link : (from to metric : ℕ) → Entry
link from to metric = record { from = from; to = to; metric = metric }

-- Cell k of a table is that of the pair (k / width, k % width). With this metric it is listed where it goes to another
-- router of the area and is used: a dead link is not listed, since Read refuses it (02, No. 5).
unfoldable pub is_listed : (n k metric : ℕ) → Bool
is_listed n k metric = ltb (k % width) n && (not (eqb (k / width) (k % width)) && ltb metric unused)

-- the link of a cell, where it is listed
abbrev pub link_of : (n k metric : ℕ) → List Entry
link_of n k metric = pick (is_listed n k metric) (link (k / width) (k % width) metric ∷ []) []

-- those of the first k cells: the routers that they come from rise, and for each of these the routers that they go to
unfoldable pub listed : (n : ℕ) (m : List ℕ) (k : ℕ) → List Entry
listed n m zero = []
listed n m (suc k) = listed n m k ++ link_of n k (get_or m k 0)

-- the links of the area: those of its n rows
abbrev pub links_of : (n : ℕ) (m : List ℕ) → List Entry
links_of n m = listed n m (width * n)

-- ---- as bytes
-- a count in two bytes, high byte first
abbrev pub count_bytes : (count : ℕ) → List ℕ
count_bytes count = count / 256 ∷ (count % 256 ∷ [])

-- from, to, and the metric in three bytes, high byte first
abbrev pub link_bytes : (x : Entry) → List ℕ
link_bytes x =
    x.from ∷ (x.to ∷ (x.metric / 65536 ∷ (x.metric / 256 % 256 ∷ (x.metric % 256 ∷ []))))

unfoldable pub bytes_of : (links : List Entry) → List ℕ
bytes_of [] = []
bytes_of (x ∷ l) = link_bytes x ++ bytes_of l

-- the hold time and the step time that the file is given, in two bytes each
abbrev pub times : List ℕ
times = 0 ∷ (0 ∷ (0 ∷ (1 ∷ [])))

-- n, the count of the links, the links, that there are no changes, the times, and that there are no steps
unfoldable pub file_of : (n : ℕ) (m : List ℕ) → List ℕ
file_of n m =
    (n ∷ []) ++
    (count_bytes (length (links_of n m)) ++
    (bytes_of (links_of n m) ++
    ((0 ∷ []) ++
    (times ++
    count_bytes 0))))

-- ---- as a text: the same bytes in their order, and behind each part what it says, all comments in one column
--     03            # routers 3
--     0001          # links 1
--     0001000005    # 0 to 1 at 5
--     00            # changes
--     00000001      # hold time 0, step time 1
--     0000          # steps
unfoldable pub routers_line : (n : ℕ) → List ℕ
routers_line n = hexed (n ∷ []) ++ line (word "            # routers ") n

unfoldable pub count_line : (count : ℕ) → List ℕ
count_line count = hexed (count_bytes count) ++ line (word "          # links ") count

unfoldable pub link_line : (x : Entry) → List ℕ
link_line x =
    hexed (link_bytes x) ++
    (field (word "    # ") x.from ++
    (field (word " to ") x.to ++
    line (word " at ") x.metric))

unfoldable pub link_lines : (links : List Entry) → List ℕ
link_lines [] = []
link_lines (x ∷ l) = link_line x ++ link_lines l

-- bytes, and a comment without numbers
abbrev pub words_line : (bytes words : List ℕ) → List ℕ
words_line bytes words = hexed bytes ++ words

unfoldable pub last_lines : List ℕ
last_lines =
    words_line (0 ∷ []) (word "            # changes\n") ++
    (words_line times (word "      # hold time 0, step time 1\n") ++
    words_line (count_bytes 0) (word "          # steps\n"))

unfoldable pub all_lines : (n : ℕ) (m : List ℕ) → List ℕ
all_lines n m =
    routers_line n ++
    (count_line (length (links_of n m)) ++
    (link_lines (links_of n m) ++
    last_lines))

-- There is no text where the sizes are not those of an area: n is not 1 to `width`, or the table has another size.
unfoldable pub is_sized : (n : ℕ) (m : List ℕ) → Bool
is_sized n m = is_router_count n && is_table m

unfoldable pub area_text : (n : ℕ) (m : List ℕ) → List ℕ
area_text n m = pick (is_sized n m) (all_lines n m) []

-- so many bytes have room for the text of any area: a line for each cell, and the other five lines
abbrev pub room : ℕ
room = 37 * (width * width) + 150
