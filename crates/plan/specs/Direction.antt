-- Which way a change goes (01, "The plan", and 02, No. 4): the usable metrics before it and after it are compared, over
-- all pairs of routers. n is the number of routers, m the old metric table, l the change list.
use Rattle.std.specs.Prelude.{ℕ, Bool, List, leb, eqb}
use Rattle.area.specs.Tests.{all}
use Rattle.topology.specs.Topology.{topology}
use Rattle.plan.specs.NewMetrics.{new_metrics}

-- no usable metric of the table m is larger than that of the table o
unfoldable pub are_at_most : (n : ℕ) (m o : List ℕ) → Bool
are_at_most n m o = all n (λ i. all n (λ j. leb (topology n m i j) (topology n o i j)))

-- No usable metric becomes smaller, or none becomes larger: the pairs that keep theirs decide nothing.
unfoldable pub is_rise : (n : ℕ) (m l : List ℕ) → Bool
is_rise n m l = are_at_most n m (new_metrics n m l)

unfoldable pub is_fall : (n : ℕ) (m l : List ℕ) → Bool
is_fall n m l = are_at_most n (new_metrics n m l) m

-- every pair keeps its usable metric
unfoldable pub is_same : (n : ℕ) (m l : List ℕ) → Bool
is_same n m l = all n (λ i. all n (λ j. eqb (topology n m i j) (topology n (new_metrics n m l) i j)))
