-- Laws of the text of an area that is appended: what was appended part by part is the line, and what was appended line
-- by line is the text.
--     routers_appended, count_appended, link_appended, words_appended, last_appended       a line
--     cell_listed, cell_none                   the line of a cell, and none
--     lines_start, lines_next                  the lines of the first cells
--     area_none, area_appended                 no text, and the whole text
use Rattle.std.specs.Prelude.{ℕ, ◌+◌, ◌/◌, ◌%◌, ◌≤◌, ◌≡◌, Bool, true, false, not, List, [], ◌∷◌, length, get_or}
use Rattle.std.proofs.Common.{append-nil, add-one}
use borrow.Author.Tests.{not-true, not-false}
use Rattle.area.specs.Limits.{width}
use Rattle.text.specs.Text.{Appended, word, field, line}
use Rattle.text.proofs.TextLaws.{appended_none, appended_then}
use Rattle.hexadecimal.specs.Digits.{hexed}
use Rattle.area_file.specs.AreaFile.{times, words_line, link, is_listed, link_of, listed, links_of, link_bytes}
use Rattle.area_file.specs.AreaFile.{routers_line, count_line, link_line, link_lines, last_lines, all_lines}
use Rattle.area_file.specs.AreaFile.{is_sized, area_text}
use Rattle.area_file.proofs.LineLaws.{lines_joined}

-- ---- lines
pub routers_appended :
    (n : ℕ) {o p q : List ℕ} {a b c : ℕ}
    → Appended o a (hexed (n ∷ [])) p b
    → Appended p b (line (word "            # routers ") n) q c
    → Appended o a (routers_line n) q c
unfolding routers_line
routers_appended n u v = appended_then u v

pub count_appended :
    (count : ℕ) {o p q : List ℕ} {a b c : ℕ}
    → Appended o a (hexed (count / 256 ∷ (count % 256 ∷ []))) p b
    → Appended p b (line (word "          # links ") count) q c
    → Appended o a (count_line count) q c
unfolding count_line
count_appended count u v = appended_then u v

pub link_appended :
    (i j v : ℕ) {o p q s t : List ℕ} {a b c d e : ℕ}
    → Appended o a (hexed (link_bytes (link i j v))) p b
    → Appended p b (field (word "    # ") i) q c
    → Appended q c (field (word " to ") j) s d
    → Appended s d (line (word " at ") v) t e
    → Appended o a (link_line (link i j v)) t e
unfolding link_line
link_appended i j v w x y z = appended_then w (appended_then x (appended_then y z))

pub words_appended :
    (bytes words : List ℕ) {o p q : List ℕ} {a b c : ℕ}
    → Appended o a (hexed bytes) p b
    → Appended p b words q c
    → Appended o a (words_line bytes words) q c
words_appended bytes words x y = appended_then x y

pub last_appended :
    {o p q s : List ℕ} {a b c d : ℕ}
    → Appended o a (words_line (0 ∷ []) (word "            # changes\n")) p b
    → Appended p b (words_line times (word "      # hold time 0, step time 1\n")) q c
    → Appended q c (words_line (0 ∷ (0 ∷ [])) (word "          # steps\n")) s d
    → Appended o a last_lines s d
unfolding last_lines
last_appended x y z = appended_then x (appended_then y z)

-- ---- the lines of the links
-- t says whether cell k is a link
module _ (n k metric : ℕ) (t : Bool) (told : t ≡ is_listed n k metric) where
  pub cell_listed :
      t ≡ true
      → {o p : List ℕ} {a b : ℕ}
      → Appended o a (link_line (link (k / width) (k % width) metric)) p b
      → Appended o a (link_lines (link_of n k metric)) p b
  unfolding link_lines
  cell_listed e u = rw (← told, e, append-nil) u

  pub cell_none :
      t ≡ false
      → (o : List ℕ) (a : ℕ)
      → a ≤ length o
      → Appended o a (link_lines (link_of n k metric)) o a
  unfolding link_lines
  cell_none e o a h = rw (← told, e) (appended_none o a h)

module _ (n : ℕ) (m : List ℕ) where
  pub lines_start : (o : List ℕ) (a : ℕ) → a ≤ length o → Appended o a (link_lines (listed n m 0)) o a
  unfolding listed link_lines
  lines_start o a h = appended_none o a h

  pub lines_next :
      (k : ℕ) {o p q : List ℕ} {a b c : ℕ}
      → Appended o a (link_lines (listed n m k)) p b
      → Appended p b (link_lines (link_of n k (get_or m k 0))) q c
      → Appended o a (link_lines (listed n m (k + 1))) q c
  unfolding listed
  lines_next k u v = rw (add-one, lines_joined (listed n m k) (link_of n k (get_or m k 0))) (appended_then u v)

-- ---- the text; t says whether there is an area
module _ (n : ℕ) (m : List ℕ) (t : Bool) (told : t ≡ is_sized n m) where
  pub area_none :
      not t ≡ true
      → {o p : List ℕ} {a b : ℕ}
      → Appended o a [] p b
      → Appended o a (area_text n m) p b
  unfolding area_text
  area_none e u = rw (← told, not-true t e) u

  pub area_appended :
      not t ≡ false
      → (count : ℕ)
      → count ≡ length (links_of n m)
      → {o p q s w : List ℕ} {a b c d e : ℕ}
      → Appended o a (routers_line n) p b
      → Appended p b (count_line count) q c
      → Appended q c (link_lines (links_of n m)) s d
      → Appended s d last_lines w e
      → Appended o a (area_text n m) w e
  unfolding area_text all_lines
  area_appended f count is u v x y =
      rw (← told, not-false t f, ← is) (appended_then u (appended_then v (appended_then x y)))
