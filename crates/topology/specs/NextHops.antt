-- Next hops (01, "The area and its paths").
--     Next         what the paper means
--     is_next      the test of it: `next_true`, `true_next` of proofs/NextHopLaws.antt
--     next_hops    the set
use Rattle.std.specs.Prelude.{ℕ, ◌+◌, ◌<◌, ◌≡◌, Bool, ◌&&◌, ltb, eqb}
use Rattle.area.specs.Limits.{unused}
use Rattle.sets.specs.Sets.{set_of}
use Rattle.topology.specs.Topology.{Topology}
use Rattle.topology.specs.Distance.{distance}

-- Router k is a next hop from i to j: the link from i to k is used, and a least walk to j starts with it.
-- Sums are of natural numbers and never wrap, so a k that does not reach j is none.
pub record Next (n : ℕ) (g : Topology) (i j k : ℕ) : Type 0 where
  pub uses : g i k < unused
  pub exact : g i k + distance n g k j ≡ distance n g i j

unfoldable pub is_next : (n : ℕ) (g : Topology) (i j k : ℕ) → Bool
is_next n g i j k = ltb (g i k) unused && eqb (g i k + distance n g k j) (distance n g i j)

-- The next-hop set of (i, j), of routers below w. That it is empty for i = j and where j is not reached follows:
-- `no_next_self`, `no_next_unreached` of proofs/NextHopLaws.antt.
unfoldable pub next_hops : (w n : ℕ) (g : Topology) (i j : ℕ) → ℕ
next_hops w n g i j = set_of w (is_next n g i j)
