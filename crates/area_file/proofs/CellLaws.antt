-- Laws of the tests of an area: whether there is one, which cells of its table are links, and how many they are.
--     area_low, area_high, area_told               whether there is an area
--     listed_beyond, listed_own, listed_told       whether a cell is a link
--     listed_used                                  a link is used
--     counted_none, counted_more, counted_less     the links, counted cell by cell
use Rattle.std.specs.Prelude.{ℕ, ◌+◌, ◌*◌, ◌/◌, ◌%◌, ◌≤◌, ◌<◌, ◌≡◌, Bool, true, false, ◌≢◌, List}
use Rattle.std.specs.Prelude.{eqb, ltb, length, get_or}
use Rattle.std.proofs.Math.Path.{refl}
use Rattle.std.proofs.Common.{sym, ◌∙◌, add-one, arith}
use borrow.Author.Tests.{lt-ltb, le-ltb, eq-eqb, ne_eqb}
use Rattle.std.proofs.Math.ListN.{length-append}
use Rattle.area.specs.Limits.{width, unused}
use Rattle.area.proofs.SizeLaws.{router_count_true, router_count_low, router_count_high, table_is}
use Rattle.area_file.specs.AreaFile.{is_listed, listed, is_sized}
use Rattle.area_file.proofs.LinkLaws.{listed_is}

-- ---- an area
module _ (n : ℕ) (m : List ℕ) where
  pub area_low : n < 1 → false ≡ is_sized n m
  unfolding is_sized
  area_low h = rw (router_count_low n h) refl

  pub area_high : width < n → false ≡ is_sized n m
  unfolding is_sized
  area_high h = rw (router_count_high n h) refl

  pub area_told : 1 ≤ n → n ≤ width → eqb (length m) (width * width) ≡ is_sized n m
  unfolding is_sized
  area_told a b = rw (router_count_true n a b, table_is m) refl

-- ---- the cells that are links
module _ (n k metric : ℕ) where
  pub listed_beyond : n ≤ k % width → false ≡ is_listed n k metric
  unfolding is_listed
  listed_beyond h = rw (le-ltb (k % width) n h) refl

  pub listed_own : k % width < n → k / width ≡ k % width → false ≡ is_listed n k metric
  unfolding is_listed
  listed_own h e = rw (lt-ltb (k % width) n h, eq-eqb (k / width) (k % width) e) refl

  pub listed_told : k % width < n → k / width ≢ k % width → ltb metric unused ≡ is_listed n k metric
  unfolding is_listed
  listed_told h f = rw (lt-ltb (k % width) n h, ne_eqb (k / width) (k % width) f) refl

  pub listed_used : (t : Bool) → t ≡ is_listed n k metric → t ≡ true → metric < unused
  listed_used t told e = (listed_is n k metric (sym told ∙ e)).used

-- ---- how many they are; t says whether cell k is one
pub counted_none : (n : ℕ) (m : List ℕ) → 0 ≡ length (listed n m 0)
unfolding listed
counted_none n m = refl

module _
    (n : ℕ) (m : List ℕ) (k count : ℕ)
    (is : count ≡ length (listed n m k))
    (t : Bool) (told : t ≡ is_listed n k (get_or m k 0))
  where
    pub counted_more : t ≡ true → count + 1 ≡ length (listed n m (k + 1))
    unfolding listed
    counted_more e = rw (add-one k, length-append, ← told, e, is) refl

    pub counted_less : t ≡ false → count ≡ length (listed n m (k + 1))
    unfolding listed
    counted_less e = rw (add-one k, length-append, ← told, e, is) (omega arith)
