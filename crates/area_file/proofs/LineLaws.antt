-- Laws of the text as code makes it.
--     sizes, area_sized        the sizes of an area
--     count_listed             the links, counted cell by cell
--     link_ends                what a link says is small
--     lines_none, lines_listed, lines_less     the lines of the first cells
--     area_none, area_written  the whole text
use Rattle.std.specs.Prelude.{ℕ, zero, suc, ◌+◌, ◌*◌, ◌/◌, ◌%◌, ◌≤◌, ◌<◌, ◌≡◌, Bool, true, false, cond, List}
use Rattle.std.specs.Prelude.{[], ◌∷◌, ◌++◌, length, get_or, take}
use Rattle.std.specs.List.{filter, enumerate_from}
use Rattle.std.proofs.Common.{refl, sym, ap, ◌∙◌, append-nil, append_assoc, add-one, ap₂, arith, take-suc}
use Rattle.std.proofs.Common.{length-take-le}
use Rattle.std.proofs.lemmas.List.Elements.{filter-append}
use Rattle.std.proofs.Math.ListN.{length-append}
use Rattle.area.specs.Limits.{width, unused}
use Rattle.area.proofs.TestLaws.{both_true}
use Rattle.area.specs.Sizes.{is_router_count, is_table}
use Rattle.area.proofs.SizeLaws.{router_count_true, router_count_low, router_count_high, router_count_most}
use Rattle.area.proofs.SizeLaws.{table_is, table_size_lem}
use Rattle.entries.specs.declared.Entry.{Entry}
use Rattle.area.specs.Tests.{pick}
use Rattle.text.specs.Text.{Writes}
use Rattle.text.specs.declared.writer.Writer.{Writer}
use Rattle.text.proofs.WriterLaws.{writes_none, writes_then}
use Rattle.area_file.specs.AreaFile.{link, is_listed, listed, links_of}
use Rattle.area_file.specs.AreaFile.{routers_line, count_line, link_line, link_lines, last_lines, all_lines}
use Rattle.area_file.specs.AreaFile.{is_sized, area_text}
use Rattle.area_file.proofs.LinkLaws.{listed_is}

-- ---- an area
-- the tests of its sizes
pub ruleset sizes = (router_count_true, router_count_low, router_count_high, table_is)

pub area_sized : (n : ℕ) (m : List ℕ) → is_sized n m ≡ true → (n ≤ width) × (length m ≡ width * width)
unfolding is_sized
area_sized n m e =
    let both = both_true (is_router_count n) (is_table m) e in
    (router_count_most n both.0, table_size_lem m both.1)

-- ---- how many links there are
enumerate_more :
    (i : ℕ) (l : List ℕ) (x : ℕ)
    → enumerate_from i (l ++ (x ∷ [])) ≡ enumerate_from i l ++ ((i + length l, x) ∷ [])
enumerate_more i [] x = ap (λ (k : ℕ). (k, x) ∷ []) (let e : i ≡ i + 0 = omega arith in e)
enumerate_more i (y ∷ l) x =
    let e : i + 1 + length l ≡ i + suc (length l) = omega arith in
    ap (λ (t : List (ℕ × ℕ)). (i, y) ∷ t)
    (enumerate_more (i + 1) l x ∙ ap (λ (k : ℕ). enumerate_from (i + 1) l ++ ((k, x) ∷ [])) e)

-- the links among the cells of a table, each with its place
abbrev pub listed_cells : (n : ℕ) (m : List ℕ) → List (ℕ × ℕ)
listed_cells n m = filter (λ (p : ℕ × ℕ). is_listed n p.0 p.1) (enumerate_from 0 m)

pub count_listed :
    (n : ℕ) (m : List ℕ) (k : ℕ)
    → k ≤ length m
    → length (listed_cells n (take k m)) ≡ length (listed n m k)
unfolding listed
count_listed n m zero h = refl
count_listed n m (suc k) h =
    let x = get_or m k 0 in
    let size : 0 + length (take k m) ≡ k = omega (arith, length-take-le k m (omega arith)) in
    rw (take-suc m k 0 (omega arith), enumerate_more 0 (take k m) x, filter-append, length-append, length-append, size)
    (ap₂ (λ (a b : ℕ). a + b) (count_listed n m k (omega arith))
    (by_test (is_listed n k x) (k, x) (link (k / width) (k % width) x)))
  where
    by_test :
        (t : Bool) (p : ℕ × ℕ) (x : Entry)
        → length (cond t (p ∷ []) []) ≡ length (pick t (x ∷ []) [])
    by_test true p x = refl
    by_test false p x = refl

-- ---- what a link says
pub link_ends :
    (n k metric : ℕ)
    → k < width * width
    → is_listed n k metric ≡ true
    → (k / width < width) × (k % width < width) × (metric < unused)
link_ends n k metric h e = (omega arith, omega arith, (listed_is n k metric e).used)

-- ---- the lines of the links
pub lines_joined : (l m : List Entry) → link_lines (l ++ m) ≡ link_lines l ++ link_lines m
unfolding link_lines
lines_joined [] m = refl
lines_joined (x ∷ l) m =
    ap (λ (k : List ℕ). link_line x ++ k) (lines_joined l m) ∙ sym (append_assoc (link_line x) _ _)

pub lines_none : (n : ℕ) (m : List ℕ) (w : Writer) → Writes w (link_lines (listed n m 0)) w
unfolding listed link_lines
lines_none n m w = writes_none w

module _ (n : ℕ) (m : List ℕ) (k : ℕ) {u v : Writer} (so_far : Writes u (link_lines (listed n m k)) v) where
  pub lines_listed :
      {w : Writer}
      → is_listed n k (get_or m k 0) ≡ true
      → Writes v (link_line (link (k / width) (k % width) (get_or m k 0))) w
      → Writes u (link_lines (listed n m (k + 1))) w
  unfolding listed link_lines
  lines_listed e x =
      rw (add-one k, e, lines_joined (listed n m k) (link (k / width) (k % width) (get_or m k 0) ∷ []), append-nil)
      (writes_then so_far x)

  pub lines_less : is_listed n k (get_or m k 0) ≡ false → Writes u (link_lines (listed n m (k + 1))) v
  unfolding listed
  lines_less e = rw (add-one k, e, append-nil) so_far

-- ---- the text
module _ (n : ℕ) (m : List ℕ) where
  pub area_none : (w : Writer) → is_sized n m ≡ false → Writes w (area_text n m) w
  unfolding area_text
  area_none w e = rw e (writes_none w)

  pub area_written :
      {s t u v w : Writer}
      → is_sized n m ≡ true
      → Writes s (routers_line n) t
      → Writes t (count_line (length (links_of n m))) u
      → Writes u (link_lines (links_of n m)) v
      → Writes v last_lines w
      → Writes s (area_text n m) w
  unfolding area_text all_lines
  area_written e x y z l = rw e (writes_then x (writes_then y (writes_then z l)))
