-- The links to lower routers and those to higher ones are all links from i: the pair of i with itself is not looked at
-- (`metric_own`).
use Rattle.std.proofs.Common.{◌≡◌, sym, ◌∙◌, Bool, true, ◌&&◌, ◌||◌, eqb}
use Rattle.std.proofs.Common.{List, ℕ, ◌+◌, ◌-◌, ◌*◌, ◌<◌, ◌≤◌, length, get_or, take, drop, arith}
use Rattle.std.proofs.Common.{ne_eqb, ◌≢◌, length-take-le, length-take, length-drop, get_or-take, get_or-drop}
use Rattle.std.proofs.Math.Decide.{dec_lt, ℕ_discrete}
use Rattle.area.specs.Limits.{width}
use Rattle.area.specs.Tables.{cell}
use Rattle.area.specs.Tests.{all}
use Rattle.area.proofs.TableLaws.{rows_le}
use Rattle.area.proofs.TestLaws.{both_true, and_true, or_right, same_test, all_at, all_true}
use Rattle.paths.specs.Paths.{in_range, is_metric, are_metrics_from}
use Rattle.paths.proofs.PathsLaws.{metric_own}
use Rattle.paths.proofs.metrics.is_valid_row.Goals as goal

-- the metrics of a list are in range
abbrev tested : (metrics : List ℕ) → Bool
tested l = all (length l) (λ k. in_range (get_or l k 0))

-- the link from i to j is valid; j is not looked at where it is i
abbrev valid : (m : List ℕ) (i j : ℕ) → Bool
valid m i j = eqb j i || is_metric m i j

module _ (n : ℕ) (m : List ℕ) (i : ℕ) (most : n ≤ width) (h : i < n) (size : length m ≡ width * width) where
  abbrev row : List ℕ
  row = take (width * i + n - width * i) (drop (width * i) m)

  row_length : length row ≡ n
  row_length =
      let r : width * i + width ≤ width * width = rows_le width i width (omega arith) in
      simp (length-take, length-drop) (omega arith)

  row_at : (j : ℕ) → j < n → get_or row j 0 ≡ cell width m i j
  row_at j l =
      get_or-take (width * i + n - width * i) (drop (width * i) m) j 0 (omega arith) ∙ get_or-drop (width * i) m j 0

  abbrev low : List ℕ
  low = take i row

  abbrev high : List ℕ
  high = take (length row - (i + 1)) (drop (i + 1) row)

  low_length : length low ≡ i
  low_length = length-take-le i row (omega (arith, row_length))

  high_length : length high ≡ n - (i + 1)
  high_length = simp (length-take, length-drop) (omega (arith, row_length))

  low_at : (j : ℕ) → j < i → get_or low j 0 ≡ cell width m i j
  low_at j l = get_or-take i row j 0 l ∙ row_at j (omega arith)

  high_at : (j : ℕ) → i + 1 + j < n → get_or high j 0 ≡ cell width m i (i + 1 + j)
  high_at j l =
      get_or-take (length row - (i + 1)) (drop (i + 1) row) j 0 (omega (arith, row_length))
      ∙ get_or-drop (i + 1) row j 0
      ∙ row_at (i + 1 + j) l

  down : are_metrics_from n m i ≡ true → (tested low && tested high) ≡ true
  unfolding is_metric
  down e =
      and_true (tested low) (tested high)
      (all_true (length low) (λ k. in_range (get_or low k 0)) (λ k b. by_low k (rw low_length at b)))
      (all_true (length high) (λ k. in_range (get_or high k 0)) (λ k b. by_high k (rw high_length at b)))
    where
      other : (j : ℕ) → j < n → j ≢ i → in_range (cell width m i j) ≡ true
      other j l f = rw (ne_eqb j i f) at (all_at n (valid m i) e j l)

      by_low : (k : ℕ) → k < i → in_range (get_or low k 0) ≡ true
      by_low k b = rw (low_at k b) (other k (omega arith) (λ q. omega arith))

      by_high : (k : ℕ) → k < n - (i + 1) → in_range (get_or high k 0) ≡ true
      by_high k b = rw (high_at k (omega arith)) (other (i + 1 + k) (omega arith) (λ q. omega arith))

  up : (tested low && tested high) ≡ true → are_metrics_from n m i ≡ true
  unfolding is_metric
  up e = all_true n (valid m i) (λ k b. by_place k b (ℕ_discrete k i) (dec_lt k i))
    where
      tests : (tested low ≡ true) × (tested high ≡ true)
      tests = both_true (tested low) (tested high) e

      by_place : (k : ℕ) → k < n → Dec (k ≡ i) → Dec (k < i) → valid m i k ≡ true
      by_place k b (yes q) d = metric_own m i k q
      by_place k b (no f) (yes l) =
          let t = all_at (length low) (λ k. in_range (get_or low k 0)) tests.0 k (rw low_length l) in
          or_right (eqb k i) (is_metric m i k) (rw (low_at k l) at t)
      by_place k b (no f) (no g) =
          let at_high : ℕ = k - (i + 1) in
          let place : i + 1 + at_high ≡ k = omega arith in
          let l : at_high < n - (i + 1) = omega arith in
          let t = all_at (length high) (λ k. in_range (get_or high k 0)) tests.1 at_high (rw high_length l) in
          or_right (eqb k i) (is_metric m i k) (rw (high_at at_high (omega arith), place) at t)

  in_parts : (tested low && tested high) ≡ are_metrics_from n m i
  in_parts = same_test (tested low && tested high) (are_metrics_from n m i) up down

pub returns-then-are_in_range : goal.returns-then-are_in_range
returns-then-are_in_range c =
    let parts = in_parts c.args.n c.args.metric.now c.args.i (omega arith) (omega arith) (omega arith) in
    c.are_in_range-then-are_in_range.ensures ∙ (rw (sym c.are_in_range.ensures ∙ c.if-are_in_range.true) at parts)

pub returns-else-are_in_range : goal.returns-else-are_in_range
returns-else-are_in_range c =
    let parts = in_parts c.args.n c.args.metric.now c.args.i (omega arith) (omega arith) (omega arith) in
    c.if-are_in_range.false ∙ (rw (sym c.are_in_range.ensures ∙ c.if-are_in_range.false) at parts)
