-- Distances (01, "The area and its paths"): the least sum of metrics over all walks.
--     IsDistance       what the paper means
--     distance         what computes it
-- proofs/DistanceLaws.antt: `distance` is the distance (`distance_is`), and nothing else is (`same_distance`).
use Rattle.std.specs.Prelude.{ℕ, zero, suc, ◌+◌, ◌-◌, ◌≤◌, ◌<◌, min, ◌≡◌, Bool, List, [], ◌∷◌, ◌++◌, map, ltb, eqb}
use Rattle.area.specs.Limits.{unused, unreached}
use Rattle.area.specs.Tests.{pick}
use Rattle.area.specs.Lists.{collect}
use Rattle.topology.specs.Topology.{Topology}
use Rattle.topology.specs.Walk.{Walk, sum}

-- The distance from i to j is δ, over walks of any length: some walk has this sum, none has a smaller one, and δ is
-- below `unreached`; or no walk exists, and δ is `unreached`. That it is 0 from i to itself follows: `distance_self`.
pub data IsDistance (g : Topology) (i j δ : ℕ) : Type 0 where
  reached :
      (w : Walk g i j)
      → sum w ≡ δ
      → ((v : Walk g i j) → δ ≤ sum v)
      → δ < unreached
      → IsDistance g i j δ
  apart : (Walk g i j → ⊥) → δ ≡ unreached → IsDistance g i j δ

-- ---- by listing the sums of walks
-- l where the test holds, and nothing where it fails
abbrev pub only : (b : Bool) (l : List ℕ) → List ℕ
only b l = pick b l []

-- The sums of the walks from i that take the link to k first, where `on k` are the sums of the walks on from k.
abbrev pub sums_via : (g : Topology) (i : ℕ) (on : ℕ → List ℕ) (k : ℕ) → List ℕ
sums_via g i on k = only (ltb (g i k) unused) (map (λ s. g i k + s) (on k))

-- The sums of all walks from i to j of at most `most` links: of the walk that stays, and of those that take a link
-- to one of the n routers first.
unfoldable pub sums : (n : ℕ) (g : Topology) (most : ℕ) (i j : ℕ) → List ℕ
sums n g zero i j = only (eqb i j) (0 ∷ [])
sums n g (suc most) i j = only (eqb i j) (0 ∷ []) ++ collect n (sums_via g i (λ k. sums n g most k j))

-- the least number of a list, and `unreached` where it is empty
unfoldable pub least : (l : List ℕ) → ℕ
least [] = unreached
least (x ∷ l) = min x (least l)

-- The distance from i to j in an area of n routers. Walks of more than n - 1 links need not be listed: such a walk
-- meets a router twice, and without the way round from there its sum is no larger (proofs/WalkLaws.antt, `shorten`).
unfoldable pub distance : (n : ℕ) (g : Topology) (i j : ℕ) → ℕ
distance n g i j = least (sums n g (n - 1) i j)
