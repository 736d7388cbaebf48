-- The text of an area by its link-state data (02, No. 6). The data is one stream s of bytes: the length of the table of
-- identities in two bytes, high byte first; this table; and the lists, up to the end of the stream. An area has as many
-- routers as there are lists. m is the metric table that is lent, to be filled.
use Rattle.std.specs.Prelude.{ℕ, ◌+◌, Bool, List, ltb, eqb, length, take, drop}
use Rattle.area.specs.Bytes.{two}
use Rattle.area.specs.Tests.{pick}
use Rattle.isis.specs.Lists.{list_count}
use Rattle.isis.specs.Isis.{isis_refusal, isis_metrics}
use Rattle.text.specs.Text.{word, refused_line}
use Rattle.hexadecimal.specs.Hex.{most}
use Rattle.area_file.specs.AreaFile.{area_text}

-- ---- the parts of the stream
abbrev pub identities_of : (s : List ℕ) → List ℕ
identities_of s = take (two s 0) (drop 2 s)

abbrev pub lists_of : (s : List ℕ) → List ℕ
lists_of s = drop (2 + two s 0) s

-- ---- of a table of identities t and lists d
-- Longer lists are not read: as many bytes as a text in hexadecimal may have.
abbrev pub most_bytes : ℕ
most_bytes = most

abbrev pub is_long : (d : List ℕ) → Bool
is_long d = ltb most_bytes (length d)

-- the answer, and the metric table at exit
abbrev pub answer_of : (t d m : List ℕ) → ℕ
answer_of t d m = isis_refusal (list_count d) t d m

abbrev pub table_of : (t d m : List ℕ) → List ℕ
table_of t d m = pick (is_long d) m (isis_metrics (list_count d) t d m)

-- that the lists are too long, that they are refused, or the text of their area
unfoldable pub text_of : (t d m : List ℕ) → List ℕ
text_of t d m =
    pick (is_long d) (word "too long\n")
    (pick (eqb (answer_of t d m) 0) (area_text (list_count d) (isis_metrics (list_count d) t d m))
    (refused_line (answer_of t d m)))

-- ---- of the stream: what is printed, and the metric table at exit
unfoldable pub isis_text : (s m : List ℕ) → List ℕ
isis_text s m = text_of (identities_of s) (lists_of s) m

unfoldable pub isis_table : (s m : List ℕ) → List ℕ
isis_table s m = table_of (identities_of s) (lists_of s) m
