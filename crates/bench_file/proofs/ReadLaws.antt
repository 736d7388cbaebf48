-- Laws of Read: those by which the code is proved. There are three cases, and in each of them the tests of the
-- definitions compute.
--     read_size, metrics_kept                  the table has the wrong size
--     contents_refused, by_refused, metrics_refused        the file is refused
--     contents_accepted, by_accepted, metrics_accepted     it is accepted
--     read_file                                a table of the right size leaves the answer to the file
--     linked_is, linked_same                   a table by its cells, and links that make the same table
--     linked_clear                             the table without a link
use Rattle.std.specs.Prelude.{ℕ, ◌+◌, ◌*◌, ◌<◌, ◌≡◌, ◌≢◌, List, [], length}
use Rattle.std.proofs.Math.Path.{refl}
use Rattle.std.proofs.Common.{sym, ◌∙◌, arith}
use borrow.Author.Tests.{eq-eqb, ne_eqb}
use Rattle.area.specs.Limits.{width, unused}
use Rattle.area.specs.Refusals.{table_size}
use Rattle.area.proofs.SizeLaws.{table_true, table_false}
use Rattle.area.specs.Tables.{build, cell, tabulate}
use Rattle.area.proofs.TableLaws.{length_build, build_at, length_tabulate, cell_tabulate, is_tabulate}
use Rattle.area.proofs.TableLaws.{cell_in}
use Rattle.entries.specs.Entries.{listed_metric}
use Rattle.entries.proofs.EntryLaws.{given_start}
use Rattle.bench_file.specs.Sections.{link_count, links}
use Rattle.bench_file.specs.declared.Format.{Format}
use Rattle.bench_file.specs.declared.Format.TheVariants.{New}
use Rattle.bench_file.specs.Faults.{file_refusal}
use Rattle.bench_file.specs.Read.{read_refusal, contents, no_contents, contents_by, contents_of, linked, metrics_by}

module _ (f t : List ℕ) where
  pub read_size : length t ≢ width * width → read_refusal f t ≡ table_size
  unfolding read_refusal
  read_size a = rw (table_false t a) refl

  pub read_file : length t ≡ width * width → read_refusal f t ≡ file_refusal New f
  unfolding read_refusal
  read_file a = rw (table_true t a) refl

  pub contents_refused : read_refusal f t ≢ 0 → contents_of f t ≡ no_contents
  unfolding contents_of
  contents_refused a = rw (ne_eqb (read_refusal f t) 0 a) refl

  pub contents_accepted : read_refusal f t ≡ 0 → contents_of f t ≡ contents New f
  unfolding contents_of
  contents_accepted a = rw (eq-eqb (read_refusal f t) 0 a) refl

-- with the format of the reader
module _ (format : Format) (f : List ℕ) where
  pub by_refused : file_refusal format f ≢ 0 → contents_by format f ≡ no_contents
  unfolding contents_by
  by_refused a = rw (ne_eqb (file_refusal format f) 0 a) refl

  pub by_accepted : file_refusal format f ≡ 0 → contents_by format f ≡ contents format f
  unfolding contents_by
  by_accepted a = rw (eq-eqb (file_refusal format f) 0 a) refl

module _ (format : Format) (f t : List ℕ) where
  pub metrics_kept : length t ≢ width * width → metrics_by format f t ≡ t
  unfolding metrics_by
  metrics_kept a = rw (table_false t a) refl

  module _ (a : length t ≡ width * width) where
    pub metrics_refused : file_refusal format f ≢ 0 → metrics_by format f t ≡ linked [] 0
    unfolding metrics_by
    metrics_refused b = rw (table_true t a, ne_eqb (file_refusal format f) 0 b) refl

    pub metrics_accepted : file_refusal format f ≡ 0 → metrics_by format f t ≡ linked (links f) (link_count f)
    unfolding metrics_by
    metrics_accepted b = rw (table_true t a, eq-eqb (file_refusal format f) 0 b) refl

-- a table whose cells have the metrics that the links give is the table of these links
pub linked_is :
    (l : List ℕ) (k : ℕ) (t : List ℕ)
    → length t ≡ width * width
    → ((i j : ℕ) → i < width → j < width → cell width t i j ≡ listed_metric l k i j unused)
    → t ≡ linked l k
unfolding linked
linked_is l k t size same = is_tabulate width (λ i j. listed_metric l k i j unused) t (omega arith) size same

-- links that give every pair the same metric make the same table
pub linked_same :
    (l m : List ℕ) (k p : ℕ)
    → ((i j : ℕ) → listed_metric l k i j unused ≡ listed_metric m p i j unused)
    → linked l k ≡ linked m p
unfolding linked
linked_same l m k p same =
    is_tabulate width (λ i j. listed_metric m p i j unused) (tabulate width (λ i j. listed_metric l k i j unused))
    (omega arith) (length_tabulate width (λ i j. listed_metric l k i j unused))
    (λ i j a b. cell_tabulate width (λ i j. listed_metric l k i j unused) i j a b ∙ same i j)

-- a table that was cleared
pub linked_clear : (n : ℕ) → n ≡ width * width → build n (λ _. unused) ≡ linked [] 0
unfolding linked
linked_clear n a =
    is_tabulate width (λ i j. listed_metric [] 0 i j unused) (build n (λ _. unused)) (omega arith)
    (length_build n (λ _. unused) ∙ a)
    (λ i j b c.
    build_at n (λ _. unused) (width * i + j) (omega (arith, cell_in width i j b c))
    ∙ sym (given_start [] i j unused))
