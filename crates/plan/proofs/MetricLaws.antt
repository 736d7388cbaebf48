-- Laws of the metrics after the change.
--     cell_pair, cell_own, cell_beyond     the three kinds of cells of the new table
--     cell_copied, pair_copied the cell of a pair where nothing is changed
--     new_cell_lem, new_ready      the new table, and that Paths accepts it
--     Pair, pair_of    what can be of a pair: a change is of it, or of its reverse, or its usable metric stays
--     topology_elsewhere       it stays where no common router is an end
-- The metric of a pair of routers is that of a change of this pair, or the old one (`pair_cases`). A usable metric goes
-- by both directions, so a change can touch its own pair and the reverse.
use Rattle.std.specs.Prelude.{ℕ, ◌*◌, ◌/◌, ◌%◌, ◌≤◌, ◌<◌, ◌≡◌, true, ◌||◌, ◌≢◌, ◌⊎◌, List, [], ltb, eqb, length, get_or}
use Rattle.std.proofs.Math.Path.{refl}
use Rattle.std.proofs.Common.{sym, ap, ◌∙◌, inl, inr, ⊎_elim, arith}
use Rattle.std.proofs.Math.Bool.{false}
use Rattle.std.proofs.Math.Decide.{dec_lt, ℕ_discrete}
use borrow.Author.Tests.{lt-ltb, le-ltb, eq-eqb, ne_eqb}
use Rattle.area.specs.Limits.{width, unused}
use Rattle.area.specs.Tables.{cell}
use Rattle.area.proofs.TestLaws.{and_false}
use Rattle.area.proofs.TableLaws.{length_tabulate, cell_tabulate}
use Rattle.entries.specs.Entries.{entry_count, from, to, metric, listed_metric}
use Rattle.entries.proofs.EntryLaws.{entry_count_is, of_pair, given_start, given_cases}
use Rattle.paths.specs.Paths.{is_metric}
use Rattle.topology.specs.Topology.{topology}
use Rattle.topology.proofs.TopologyLaws.{topology_same}
use Rattle.paths.specs.Ready.{Ready}
use Rattle.paths.proofs.PathsLaws.{metric_own, metric_good, metrics_at, metrics_true}
use Rattle.changes.specs.Root.{is_common}
use Rattle.changes.proofs.RootLaws.{common_at}
use Rattle.plan.specs.NewMetrics.{new_cell, new_metrics}

-- ---- the cells of the new table
module _ (n : ℕ) (m l : List ℕ) (i j : ℕ) where
  pub cell_pair :
      i < n
      → j < n
      → i ≢ j
      → new_cell n m l i j ≡ listed_metric l (entry_count l) i j (cell width m i j)
  unfolding new_cell
  cell_pair a b f = rw (lt-ltb i n a, lt-ltb j n b, ne_eqb i j f) refl

  pub cell_own : i ≡ j → new_cell n m l i j ≡ unused
  unfolding new_cell
  cell_own e = rw (eq-eqb i j e, and_false (ltb j n) false refl, and_false (ltb i n) false refl) refl

  pub cell_beyond : (n ≤ i) ⊎ (n ≤ j) → new_cell n m l i j ≡ unused
  unfolding new_cell
  cell_beyond (inl a) = rw (le-ltb i n a) refl
  cell_beyond (inr b) = rw (le-ltb j n b, and_false (ltb i n) false refl) refl

-- with no change the cell of a pair of routers is the old one, here by its place in the table
pub cell_copied :
    (n : ℕ) (m : List ℕ) (k : ℕ)
    → k / width < n
    → k % width < n
    → k / width ≢ k % width
    → new_cell n m [] (k / width) (k % width) ≡ get_or m k 0
cell_copied n m k a b f =
    let i = k / width in
    let j = k % width in
    let old = cell width m i j in
    cell_pair n m [] i j a b f
    ∙ ap (λ (x : ℕ). listed_metric [] x i j old) (entry_count_is [] 0 refl)
    ∙ given_start [] i j old
    ∙ ap (λ (x : ℕ). get_or m x 0) (omega arith)

-- with no change the cell of a pair of routers is the old one, here by the pair
pub pair_copied :
    (n : ℕ) (m : List ℕ) (i j : ℕ)
    → i < n
    → j < n
    → i ≢ j
    → new_cell n m [] i j ≡ cell width m i j
pair_copied n m i j a b f =
    let old = cell width m i j in
    cell_pair n m [] i j a b f
    ∙ ap (λ (x : ℕ). listed_metric [] x i j old) (entry_count_is [] 0 refl)
    ∙ given_start [] i j old

-- ---- the new table
module _ (n : ℕ) (m l : List ℕ) where
  pub new_cell_lem : (i j : ℕ) → i < width → j < width → cell width (new_metrics n m l) i j ≡ new_cell n m l i j
  unfolding new_metrics
  new_cell_lem i j a b = cell_tabulate width (new_cell n m l) i j a b

  new_size : length (new_metrics n m l) ≡ width * width
  unfolding new_metrics
  new_size = length_tabulate width (new_cell n m l)

  -- the metric of a pair of routers is that of a change of this pair, or the old one
  module _ (most : n ≤ width) {i j : ℕ} (a : i < n) (b : j < n) (f : i ≢ j) where
    pair_cell : cell width (new_metrics n m l) i j ≡ listed_metric l (entry_count l) i j (cell width m i j)
    pair_cell = new_cell_lem i j (omega arith) (omega arith) ∙ cell_pair n m l i j a b f

    pair_cases :
        ((e : ℕ)
        × (e < entry_count l)
        × (from l e ≡ i)
        × (to l e ≡ j)
        × (cell width (new_metrics n m l) i j ≡ metric l e))
        ⊎ (cell width (new_metrics n m l) i j ≡ cell width m i j)
    pair_cases =
        ⊎_elim
        (λ c. let p = of_pair l c.0 i j c.2 in inl (c.0, c.1, p.0, p.1, pair_cell ∙ c.3))
        (λ c. inr (pair_cell ∙ c))
        (given_cases l (entry_count l) i j (cell width m i j))

  -- the new table is one that Paths accepts
  pub new_ready :
      Ready n m
      → ((e : ℕ) → e < entry_count l → metric l e ≢ 0)
      → ((e : ℕ) → e < entry_count l → metric l e ≤ unused)
      → Ready n (new_metrics n m l)
  new_ready r some fits = record {
    some = r.some;
    most = r.most;
    size = new_size;
    metrics = metrics_true n (new_metrics n m l) (λ i j a b. good i j a b (ℕ_discrete j i));
  }
    where
      range :
          (i j : ℕ) → i < n → j < n → j ≢ i
          → (1 ≤ cell width (new_metrics n m l) i j) × (cell width (new_metrics n m l) i j ≤ unused)
      range i j a b f =
          let old = metrics_at n m r.metrics i j a b f in
          ⊎_elim
          (λ c. let x = some c.0 c.1 in let y = fits c.0 c.1 in omega (arith, c.4))
          (λ e. omega (arith, e))
          (pair_cases r.most a b (λ e. f (sym e)))

      good : (i j : ℕ) → i < n → j < n → Dec (j ≡ i) → (eqb j i || is_metric (new_metrics n m l) i j) ≡ true
      good i j a b (yes e) = metric_own (new_metrics n m l) i j e
      good i j a b (no f) = let v = range i j a b f in metric_good (new_metrics n m l) i j v.0 v.1

-- ---- the two topologies
-- what can be of a pair (i, j): a change is of it; or its metric in the table stays, and a change is of its reverse; or
-- its usable metric stays
pub data Pair (n : ℕ) (m l : List ℕ) (i j : ℕ) : Type 0 where
  listed : (e : ℕ) → e < entry_count l → from l e ≡ i → to l e ≡ j → Pair n m l i j
  reversed :
      (e : ℕ) → e < entry_count l → from l e ≡ j → to l e ≡ i
      → cell width (new_metrics n m l) i j ≡ cell width m i j
      → Pair n m l i j
  untouched : topology n (new_metrics n m l) i j ≡ topology n m i j → Pair n m l i j

module _ (n : ℕ) (m l : List ℕ) (most : n ≤ width) where
  pub pair_of : (i j : ℕ) → Pair n m l i j
  pair_of i j = by_pair (dec_lt i n) (dec_lt j n) (ℕ_discrete i j)
    where
      by_pair : Dec (i < n) → Dec (j < n) → Dec (i ≡ j) → Pair n m l i j
      by_pair (no a) b e = untouched (topology_same n (new_metrics n m l) m i j (λ x y z. absurd (a x)))
      by_pair (yes a) (no b) e = untouched (topology_same n (new_metrics n m l) m i j (λ x y z. absurd (b y)))
      by_pair (yes a) (yes b) (yes e) = untouched (topology_same n (new_metrics n m l) m i j (λ x y z. absurd (z e)))
      by_pair (yes a) (yes b) (no f) =
          ⊎_elim
          (λ h. listed h.0 h.1 h.2 h.3)
          (λ there. ⊎_elim
          (λ h. reversed h.0 h.1 h.2 h.3 there)
          (λ back. untouched (topology_same n (new_metrics n m l) m i j (λ x y z. (there, back))))
          (pair_cases n m l most b a (λ e. f (sym e))))
          (pair_cases n m l most a b f)

  -- the usable metric of a pair with no common router as an end stays
  pub topology_elsewhere :
      (c : ℕ) → is_common l c ≡ true
      → (i j : ℕ) → i ≢ c → j ≢ c → topology n (new_metrics n m l) i j ≡ topology n m i j
  topology_elsewhere c common i j x y = by_case (pair_of i j)
    where
      by_case : Pair n m l i j → topology n (new_metrics n m l) i j ≡ topology n m i j
      by_case (listed e b f t) =
          absurd (⊎_elim (λ q. x (sym f ∙ q)) (λ q. y (sym t ∙ q)) (common_at l c common e b))
      by_case (reversed e b f t same) =
          absurd (⊎_elim (λ q. y (sym f ∙ q)) (λ q. x (sym t ∙ q)) (common_at l c common e b))
      by_case (untouched same) = same
