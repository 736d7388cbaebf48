-- The loop that fills the metric table row by row.
--     rows_small               what `fill_row` asks of the table of identities
--     lowered_clear            what it makes of a row without links is row i of the table
--     fill_start, fill_all     the table before the first row, and after the last
--     no_links_size            a table without links has the size of a table
use Rattle.std.specs.Prelude.{ℕ, ◌*◌, ◌≤◌, ◌<◌, ◌≡◌, ltb}
use Rattle.std.proofs.Common.{◌∙◌, subst, arith}
use Rattle.std.proofs.Math.Path.{ap, ap₂}
use mathlib.Core.List.{List}
use Rattle.std.proofs.Math.ListN.{length, get_or}
use Rattle.area.specs.Tests.{pick}
use Rattle.area.specs.Limits.{width, unused}
use Rattle.area.specs.Tables.{build, tabulate}
use Rattle.area.proofs.TableLaws.{length_build, build_at, is_build, length_tabulate}
use Rattle.area.proofs.RowLaws.{RowsOver, over_start, over_all}
use Rattle.tlv.specs.Items.{items}
use Rattle.isis.specs.Identities.{row_count}
use Rattle.isis.specs.Identities.{RowsIn}
use Rattle.isis.specs.Lists.{lowest_to, list_of, listed_to}
use Rattle.isis.specs.Isis.{listed, no_links}
use Rattle.isis.specs.Rows.{lowered_row}

pub rows_small : (n : ℕ) (t : List ℕ) → n ≤ width → RowsIn n t (row_count t) → RowsIn width t (row_count t)
rows_small n t few rows k h = omega (arith, few, rows k h)

-- ys is what `fill_row` makes of a row without links by list i, which is `part`
pub lowered_clear :
    (t d : List ℕ) (i : ℕ) (part row ys : List ℕ)
    → part ≡ list_of d i
    → ((j : ℕ) → j < width → get_or row j 0 ≡ unused)
    → ys ≡ lowered_row t part row
    → ys ≡ build width (listed_to t d i)
unfolding lowered_row listed_to
lowered_clear t d i part row ys same clear e =
    is_build width (listed_to t d i) ys
    (ap length e ∙ length_build width (λ j. lowest_to t j (get_or row j 0) (items part)))
    (λ j l.
    ap (λ (x : List ℕ). get_or x j 0) e
    ∙ build_at width (λ j. lowest_to t j (get_or row j 0) (items part)) j l
    ∙ ap₂ (λ (v : ℕ) (x : List ℕ). lowest_to t j v (items x)) (clear j l) same)

-- ---- the table before the first row, and after the last
pub fill_start : (t d m : List ℕ) → m ≡ no_links → RowsOver width (listed_to t d) (λ i j. unused) 0 m
unfolding no_links
fill_start t d m e = over_start width (listed_to t d) (λ i j. unused) m e

pub fill_all :
    (n : ℕ) (t d m : List ℕ) (i : ℕ)
    → i ≡ n
    → RowsOver width (listed_to t d) (λ i j. unused) i m
    → m ≡ listed n t d
unfolding listed
fill_all n t d m i e rows =
    subst (λ (k : ℕ). m ≡ tabulate width (λ i j. pick (ltb i k) (listed_to t d i j) unused)) e
    (over_all width (listed_to t d) (λ i j. unused) i m rows (omega arith))

pub no_links_size : length no_links ≡ width * width
unfolding no_links
no_links_size = length_tabulate width (λ i j. unused)
