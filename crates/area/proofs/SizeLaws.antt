-- Laws of the sizes that a call checks first: a test holds exactly where the fact does.
--     router_count_true, -low, -high           a number of routers passes, or is too small or too large
--     router_count_some, -most                 one that passes is 1 to `width`
--     table_is, table_true, table_false        a table passes, or has another size
--     table_size_lem                               one that passes has that size
use Rattle.std.specs.Prelude.{ℕ, ◌*◌, ◌≤◌, ◌<◌, ◌≡◌, refl, true, false, ◌≢◌, List, leb, eqb, length}
use Rattle.std.proofs.Common.{leb-true, eqb-true, le-leb, eq-eqb, ne_eqb}
use Rattle.std.proofs.lemmas.Bool.{lt-leb}
use Rattle.area.specs.Limits.{width}
use Rattle.area.specs.Sizes.{is_router_count, is_table}
use Rattle.area.proofs.TestLaws.{both_true, and_false}

pub router_count_true : (n : ℕ) → 1 ≤ n → n ≤ width → is_router_count n ≡ true
unfolding is_router_count
router_count_true n a b = rw (le-leb 1 n a) (le-leb n width b)

pub router_count_low : (n : ℕ) → n < 1 → is_router_count n ≡ false
unfolding is_router_count
router_count_low n a = rw (lt-leb 1 n a) refl

pub router_count_high : (n : ℕ) → width < n → is_router_count n ≡ false
unfolding is_router_count
router_count_high n a = and_false (leb 1 n) (leb n width) (lt-leb n width a)

pub router_count_some : (n : ℕ) → is_router_count n ≡ true → 1 ≤ n
unfolding is_router_count
router_count_some n e = leb-true 1 n (both_true (leb 1 n) (leb n width) e).0

pub router_count_most : (n : ℕ) → is_router_count n ≡ true → n ≤ width
unfolding is_router_count
router_count_most n e = leb-true n width (both_true (leb 1 n) (leb n width) e).1

pub table_is : (t : List ℕ) → is_table t ≡ eqb (length t) (width * width)
unfolding is_table
table_is t = refl

pub table_true : (t : List ℕ) → length t ≡ width * width → is_table t ≡ true
unfolding is_table
table_true t e = eq-eqb (length t) (width * width) e

pub table_size_lem : (t : List ℕ) → is_table t ≡ true → length t ≡ width * width
unfolding is_table
table_size_lem t e = eqb-true (length t) (width * width) e

pub table_false : (t : List ℕ) → length t ≢ width * width → is_table t ≡ false
unfolding is_table
table_false t f = ne_eqb (length t) (width * width) f
