-- Ranks (01, "The plan"). w r is the set of routers that r waits for.
--     Chain, IsRank        what a rank is, over chains of any length
--     IsLongest            the same over chains of at most h links among n routers
--     longest, rank        what computes it. RankLaws.antt: `rank` is over chains of at most n - 1 links for every w
--                          (`rank_longest`), and it is the rank where no chain meets a router twice (`rank_distinct`)
--     ranks_of              the table of ranks
use Rattle.std.specs.Prelude.{ℕ, zero, suc, ◌-◌, ◌≤◌, ◌<◌, max, ◌≡◌, true, List, [], ◌∷◌, leb, get_or, replicate}
use Rattle.area.specs.Limits.{width}
use Rattle.area.specs.Tests.{pick}
use Rattle.area.specs.Tables.{per_router}
use Rattle.sets.specs.Sets.{bit}

-- ---- what a rank is
-- A chain from r: r alone, or r and a chain from a router that it waits for.
pub data Chain (w : ℕ → ℕ) : ℕ → Type 0 where
  alone : {r : ℕ} → Chain w r
  waits : {r s : ℕ} → bit (w r) s ≡ true → Chain w s → Chain w r

module _ {w : ℕ → ℕ} where
  -- how many links it has
  abbrev pub links : {r : ℕ} → Chain w r → ℕ
  links alone = 0
  links (waits e c) = suc (links c)

  -- the routers that it meets
  abbrev pub routers : {r : ℕ} → Chain w r → List ℕ
  routers (alone {r}) = r ∷ []
  routers (waits {r} e c) = r ∷ routers c

  -- those after the first are below n
  abbrev pub Inside : (n : ℕ) {r : ℕ} → Chain w r → Type 0
  Inside n alone = Unit {0}
  Inside n (waits {s} e c) = (s < n) × Inside n c

-- The rank of r is k: some chain from r has k links, and none has more.
pub record IsRank (w : ℕ → ℕ) (r k : ℕ) : Type 0 where
  pub chain : Chain w r
  pub exact : links chain ≡ k
  pub most : (c : Chain w r) → links c ≤ k

-- Of the chains from r with at most h links, whose routers after r are below n: some has k links, and none has more.
pub record IsLongest (n : ℕ) (w : ℕ → ℕ) (h r k : ℕ) : Type 0 where
  pub chain : Chain w r
  pub inside : Inside n chain
  pub short : links chain ≤ h
  pub exact : links chain ≡ k
  pub most : (c : Chain w r) → Inside n c → links c ≤ h → links c ≤ k

-- ---- what computes it
-- the greatest of f 0, f 1, .. f (n - 1)
unfoldable pub greatest : (n : ℕ) (f : ℕ → ℕ) → ℕ
greatest zero f = 0
greatest (suc n) f = max (greatest n f) (f n)

-- One more than the greatest f s of a member s of the set; 0 where it has no member below n.
unfoldable pub above : (n set : ℕ) (f : ℕ → ℕ) → ℕ
above n set f = greatest n (λ s. pick (bit set s) (suc (f s)) 0)

-- the greatest number of links of a chain from r that has at most h, and whose routers after r are below n
unfoldable pub longest : (n : ℕ) (w : ℕ → ℕ) (h r : ℕ) → ℕ
longest n w zero r = 0
longest n w (suc h) r = above n (w r) (longest n w h)

-- The rank of r among n routers. A chain that meets no router twice has at most n - 1 links. Where waiting goes round
-- in a circle there are longer ones, and they do not count.
unfoldable pub rank : (n : ℕ) (w : ℕ → ℕ) (r : ℕ) → ℕ
rank n w r = longest n w (n - 1) r

-- The table of ranks by a table t of the sets that routers wait for; zeros where n is above the width.
unfoldable pub ranks_of : (n : ℕ) (t : List ℕ) → List ℕ
ranks_of n t = pick (leb n width) (per_router width n (rank n (λ r. get_or t r 0))) (replicate width 0)
