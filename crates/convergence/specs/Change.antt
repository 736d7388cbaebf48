-- What the argument takes as given: two topologies that differ at the links of one router, forwarding sets toward one
-- destination in both, and routers that write in order.
--     n routers, the root c, the destination d
--     lo, hi               the topologies with the smaller and with the larger metrics: a rise goes from lo to hi, a
--                          fall from hi to lo
--     at-lo, at-hi         the sets toward d in lo and in hi
--     wrote r, done r      r has written d; r is done
use Rattle.std.specs.Prelude.{ℕ, ◌≤◌, ◌≡◌, Bool, true, ◌≢◌, ◌↔◌}
use Rattle.sets.specs.Sets.{bit}
use Rattle.topology.specs.Topology.{Topology}
use Rattle.topology.specs.NextHops.{Next}
use Rattle.topology.specs.Graph.{Graph}
use Rattle.convergence.specs.Pointers.{Pointers}

-- No link has a smaller metric in hi than in lo, and those that differ have the root as an end.
pub record Change (n c : ℕ) (lo hi : Topology) : Type 0 where
  pub lo_graph : Graph n lo
  pub hi_graph : Graph n hi
  pub lower : (i k : ℕ) → lo i k ≤ hi i k
  pub elsewhere : (i k : ℕ) → i ≢ c → k ≢ c → hi i k ≡ lo i k

-- Forwarding sets: f r holds next hops of r toward d, and at least one where there is one. It need not hold them all.
pub record Part (n d : ℕ) (g : Topology) (f : Pointers) : Type 0 where
  pub next : (r k : ℕ) → bit (f r) k ≡ true → Next n g r d k
  pub some : (r k : ℕ) → Next n g r d k → (j : ℕ) × (bit (f r) j ≡ true)

-- Those of both topologies. A router whose next hops are the same in both has one set.
pub record Sets (n d : ℕ) (lo hi : Topology) (at-lo at-hi : Pointers) : Type 0 where
  pub in_lo : Part n d lo at-lo
  pub in_hi : Part n d hi at-hi
  pub same : (r : ℕ) → ((k : ℕ) → Next n lo r d k ↔ Next n hi r d k) → at-lo r ≡ at-hi r

-- The order. A router writes, and is done, only after those that it waits for are done; and it is not done before it
-- has written a set that changes.
pub record Ordered (waits : (r w : ℕ) → Type 0) (old new : Pointers) (wrote done : ℕ → Bool) : Type 0 where
  pub wrote_after : (r w : ℕ) → wrote r ≡ true → waits r w → done w ≡ true
  pub done_after : (r w : ℕ) → done r ≡ true → waits r w → done w ≡ true
  pub done_wrote : (r : ℕ) → done r ≡ true → old r ≢ new r → wrote r ≡ true

-- In a rise r waits for those that have it as a next hop to the root, in a fall for its own next hops to the root
-- (01, "The plan"). Both by lo: the topology before a rise, and after a fall.
abbrev pub WaitsRise : (n c : ℕ) (lo : Topology) (r w : ℕ) → Type 0
WaitsRise n c lo r w = Next n lo w c r

abbrev pub WaitsFall : (n c : ℕ) (lo : Topology) (r w : ℕ) → Type 0
WaitsFall n c lo r w = Next n lo r c w
