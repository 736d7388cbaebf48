-- Laws of chains and ranks. A proof about ranks cites these and does not open `rank`.
--     greatest_le, greatest_least, greatest_at, greatest_same      the greatest of f 0 .. f (n - 1): none is more, it
--                                          is the least such bound, it is 0 or one of them, and they decide it
--     above_le, above_least, above_at, above_same      the same of one more than the greatest f of a member
--     above_start, above_skip, above_more      found router by router
--     longest_is, rank_longest             for every w: `longest` is the greatest number of links of a chain with at
--                                          most h, among n routers, and `rank` that of one with at most n - 1
--     longest_le, longest_same, rank_same      their bound; what the n routers wait for decides them
--     longest_stays        where one link more makes no chain longer, more links do not either
--     rank_distinct                        where no chain meets a router twice, the rank is over chains of any length
--     chain_distinct, rank_is              where waiting comes down in some measure this is so
--     same_rank                            nothing else is the rank
--     rank_less                            a router ranks above those it waits for
--     ranks_in, ranks_beyond, ranks_at     the table of ranks, for at most `width` routers and for more; its entries
-- `longest` has the links of some chain, and of chains with at most h links none has more: both by induction on h.
-- Where waiting comes down in a measure, the routers of a chain are different, so they are at most n (pigeonhole), and
-- h = n - 1 leaves no chain out.
use Rattle.std.specs.Prelude.{ℕ, zero, suc, ◌+◌, ◌-◌, ◌≤◌, ◌<◌, max, ◌≡◌, Bool, true}
use Rattle.std.specs.Prelude.{false, ◌⊎◌, List, length, get_or, replicate}
use Rattle.std.proofs.Math.Path.{refl}
use Rattle.std.proofs.Common.{sym, ap, ap₂, ◌∙◌, inl, inr, ⊎_elim, eq-or-lt_of_le}
use Rattle.std.proofs.Common.{le_of_suc-le-suc, not-suc-le-zero, arith, add-one, le-leb}
use Rattle.std.proofs.Math.Decide.{dec_le}
use Rattle.std.proofs.lemmas.Bool.{lt-leb}
use Rattle.area.specs.Limits.{width}
use Rattle.area.specs.Tests.{pick}
use Rattle.area.proofs.TestLaws.{look}
use Rattle.area.specs.Tables.{per_router}
use Rattle.area.proofs.PerRouterLaws.{per_at}
use Rattle.sets.specs.Sets.{bit}
use Rattle.area.specs.Lists.{◌∈◌, Distinct, Below}
use Rattle.area.proofs.PigeonholeLaws.{pigeonhole}
use Rattle.ranks.specs.Rank.{Chain, alone, waits, links, routers, Inside, IsRank, IsLongest}
use Rattle.ranks.specs.Rank.{greatest, above, longest, rank, ranks_of}

-- ---- the greatest of f 0 .. f (n - 1)
pub greatest_le : (n : ℕ) (f : ℕ → ℕ) (k : ℕ) → k < n → f k ≤ greatest n f
unfolding greatest
greatest_le zero f k h = absurd (not-suc-le-zero h)
greatest_le (suc n) f k h =
    ⊎_elim (λ e. rw e (omega arith)) (λ l. omega (arith, greatest_le n f k l)) (eq-or-lt_of_le (le_of_suc-le-suc h))

pub greatest_least :
    (n : ℕ) (f : ℕ → ℕ) (b : ℕ)
    → ((k : ℕ) → k < n → f k ≤ b)
    → greatest n f ≤ b
unfolding greatest
greatest_least zero f b l = omega arith
greatest_least (suc n) f b l = omega (arith, l n (omega arith), greatest_least n f b (λ k h. l k (omega arith)))

-- it is 0, or one of them
pub greatest_at :
    (n : ℕ) (f : ℕ → ℕ)
    → (greatest n f ≡ 0) ⊎ ((k : ℕ) × (k < n) × (greatest n f ≡ f k))
unfolding greatest
greatest_at zero f = inl refl
greatest_at (suc n) f = elim (dec_le (greatest n f) (f n)) [
  | yes p ↦ inr (n, omega arith, omega arith)
  | no q ↦
      ⊎_elim (λ e. inl (omega arith)) (λ t. inr (t.0, omega (arith, t.1), omega (arith, t.2)))
      (greatest_at n f)
]

-- they decide it
pub greatest_same :
    (n : ℕ) (f g : ℕ → ℕ)
    → ((k : ℕ) → k < n → f k ≡ g k)
    → greatest n f ≡ greatest n g
unfolding greatest
greatest_same zero f g e = refl
greatest_same (suc n) f g e = ap₂ max (greatest_same n f g (λ k h. e k (omega arith))) (e n (omega arith))

-- ---- one more than the greatest f of a member
pub above_le : (n s : ℕ) (f : ℕ → ℕ) (k : ℕ) → k < n → bit s k ≡ true → f k < above n s f
unfolding above
above_le n s f k h e = rw e at (greatest_le n (λ i. pick (bit s i) (suc (f i)) 0) k h)

pub above_least :
    (n s : ℕ) (f : ℕ → ℕ) (b : ℕ)
    → ((k : ℕ) → k < n → bit s k ≡ true → f k < b)
    → above n s f ≤ b
unfolding above
above_least n s f b l = greatest_least n (λ i. pick (bit s i) (suc (f i)) 0) b (λ k h. least (bit s k) (f k) (l k h))
  where
    least : (t : Bool) (x : ℕ) → (t ≡ true → x < b) → pick t (suc x) 0 ≤ b
    least true x h = h refl
    least false x h = omega arith

-- it is 0, or one more than the f of a member below n
pub above_at :
    (n s : ℕ) (f : ℕ → ℕ)
    → (above n s f ≡ 0) ⊎ ((k : ℕ) × (k < n) × (bit s k ≡ true) × (above n s f ≡ suc (f k)))
unfolding above
above_at n s f =
    ⊎_elim inl
    (λ t. ⊎_elim (λ e. inr (t.0, t.1, e, rw e at t.2)) (λ e. inl (rw e at t.2)) (look (bit s t.0)))
    (greatest_at n (λ i. pick (bit s i) (suc (f i)) 0))

pub above_same :
    (n s : ℕ) (f g : ℕ → ℕ)
    → ((k : ℕ) → k < n → f k ≡ g k)
    → above n s f ≡ above n s g
unfolding above
above_same n s f g e =
    greatest_same n (λ i. pick (bit s i) (suc (f i)) 0) (λ i. pick (bit s i) (suc (g i)) 0)
    (λ k h. ap (λ (x : ℕ). pick (bit s k) (suc x) 0) (e k h))

-- found router by router: what a loop over the routers below k has
module _ (s : ℕ) (f : ℕ → ℕ) where
  pub above_start : 0 ≡ above 0 s f
  unfolding above greatest
  above_start = refl

  pub above_skip : (k : ℕ) → bit s k ≡ false → above k s f ≡ above (k + 1) s f
  unfolding above greatest
  above_skip k e = rw (add-one, e) (omega arith)

  pub above_more : (k : ℕ) → bit s k ≡ true → above (k + 1) s f ≡ max (above k s f) (suc (f k))
  unfolding above greatest
  above_more k e = rw (add-one, e) refl

-- ---- the longest chains
-- what the routers below n wait for decides
pub longest_same :
    (n : ℕ) (w v : ℕ → ℕ)
    → ((r : ℕ) → r < n → w r ≡ v r)
    → (h r : ℕ) → r < n → longest n w h r ≡ longest n v h r
unfolding longest
longest_same n w v e zero r l = refl
longest_same n w v e (suc h) r l =
    rw (e r l) (above_same n (v r) (longest n w h) (longest n v h) (longest_same n w v e h))

pub longest_le : (n : ℕ) (w : ℕ → ℕ) (h r : ℕ) → longest n w h r ≤ h
unfolding longest
longest_le n w zero r = omega arith
longest_le n w (suc h) r =
    above_least n (w r) (longest n w h) (suc h) (λ k l e. omega (arith, longest_le n w h k))

-- where chains of one link more are no longer, chains of any more links are not either
pub longest_stays :
    (n : ℕ) (w : ℕ → ℕ) (h : ℕ)
    → ((r : ℕ) → r < n → longest n w (suc h) r ≡ longest n w h r)
    → (k : ℕ) → h ≤ k
    → (r : ℕ) → r < n → longest n w k r ≡ longest n w h r
unfolding longest
longest_stays n w h e zero b r l = let none : h ≡ 0 = omega arith in rw none refl
longest_stays n w h e (suc k) b r l =
    ⊎_elim
    (λ q. rw q refl)
    (λ m. above_same n (w r) (longest n w k) (longest n w h) (longest_stays n w h e k (le_of_suc-le-suc m)) ∙ e r l)
    (eq-or-lt_of_le b)

-- a chain of as many links exists
longest_chain :
    (n : ℕ) (w : ℕ → ℕ) (h r : ℕ)
    → (c : Chain w r) × Inside n c × (links c ≡ longest n w h r)
unfolding longest
longest_chain n w zero r = (alone, tt, refl)
longest_chain n w (suc h) r =
    ⊎_elim
    (λ e. (alone, tt, sym e))
    (λ t.
    let c = longest_chain n w h t.0 in
    (waits t.2 c.0, (t.1, c.1), ap suc c.2 ∙ sym t.3))
    (above_at n (w r) (longest n w h))

-- no chain of at most h links has more
chain_longest :
    (n : ℕ) (w : ℕ → ℕ) (h : ℕ) {r : ℕ} (c : Chain w r)
    → Inside n c
    → links c ≤ h
    → links c ≤ longest n w h r
unfolding longest
chain_longest n w h alone i b = omega arith
chain_longest n w zero (waits e c) i b = absurd (omega arith)
chain_longest n w (suc h) (waits {r} {s} e c) i b =
    omega (arith, chain_longest n w h c i.1 (omega arith), above_le n (w r) (longest n w h) s i.0 e)

pub longest_is : (n : ℕ) (w : ℕ → ℕ) (h r : ℕ) → IsLongest n w h r (longest n w h r)
longest_is n w h r =
    let c = longest_chain n w h r in
    record {
      chain = c.0;
      inside = c.1;
      short = omega (arith, c.2, longest_le n w h r);
      exact = c.2;
      most = chain_longest n w h;
    }

pub rank_longest : (n : ℕ) (w : ℕ → ℕ) (r : ℕ) → IsLongest n w (n - 1) r (rank n w r)
unfolding rank
rank_longest n w r = longest_is n w (n - 1) r

pub rank_same :
    (n : ℕ) (w v : ℕ → ℕ)
    → ((r : ℕ) → r < n → w r ≡ v r)
    → (r : ℕ) → r < n → rank n w r ≡ rank n v r
unfolding rank
rank_same n w v e r l = longest_same n w v e (n - 1) r l

-- ---- chains of any length
routers_links : {w : ℕ → ℕ} {r : ℕ} (c : Chain w r) → length (routers c) ≡ suc (links c)
routers_links alone = refl
routers_links (waits e c) = ap suc (routers_links c)

-- Where no chain meets a router twice, the rank is over chains of any length.
module _ (n : ℕ) (w : ℕ → ℕ) (inside : (r s : ℕ) → bit (w r) s ≡ true → (r < n) × (s < n)) where
  routers_below : {r : ℕ} (c : Chain w r) → r < n → Below n (routers c)
  routers_below alone h x (inl e) = omega arith
  routers_below alone h x (inr m) = absurd m
  routers_below (waits e c) h x (inl q) = omega arith
  routers_below (waits {r} {s} e c) h x (inr m) = routers_below c (inside r s e).1 x m

  chain_inside : {r : ℕ} (c : Chain w r) → Inside n c
  chain_inside alone = tt
  chain_inside (waits {r} {s} e c) = ((inside r s e).1, chain_inside c)

  chain_few : {r : ℕ} (c : Chain w r) → Distinct (routers c) → links c ≤ n - 1
  chain_few alone d = omega arith
  chain_few (waits {r} {s} e c) d =
      let few = pigeonhole n (routers (waits e c)) d (routers_below (waits e c) (inside r s e).0) in
      omega (arith, routers_links (waits e c), few)

  pub rank_distinct :
      ((r : ℕ) (c : Chain w r) → Distinct (routers c))
      → (r : ℕ) → IsRank w r (rank n w r)
  rank_distinct distinct r =
      let a = rank_longest n w r in
      record {
        chain = a.chain;
        exact = a.exact;
        most = λ c. a.most c (chain_inside c) (chain_few c (distinct r c));
      }

-- Where what one waits for comes down in some measure μ, waiting never goes round in a circle.
module _
    (n : ℕ) (w : ℕ → ℕ) (inside : (r s : ℕ) → bit (w r) s ≡ true → (r < n) × (s < n))
    (μ : ℕ → ℕ) (down : (r s : ℕ) → bit (w r) s ≡ true → μ s < μ r) where
  -- no router of a chain is higher than its first
  routers_down : {r : ℕ} (c : Chain w r) (x : ℕ) → x ∈ routers c → μ x ≤ μ r
  routers_down alone x (inl e) = rw e (omega arith)
  routers_down alone x (inr m) = absurd m
  routers_down (waits e c) x (inl q) = rw q (omega arith)
  routers_down (waits {r} {s} e c) x (inr m) = omega (arith, down r s e, routers_down c x m)

  pub chain_distinct : {r : ℕ} (c : Chain w r) → Distinct (routers c)
  chain_distinct alone = ((λ m. m), tt)
  chain_distinct (waits {r} {s} e c) = ((λ m. omega (arith, down r s e, routers_down c r m)), chain_distinct c)

  -- the rank is over chains of any length, though `rank` looks only for those of at most n - 1 links
  pub rank_is : (r : ℕ) → IsRank w r (rank n w r)
  rank_is = rank_distinct n w inside (λ r. chain_distinct)

  pub rank_less : (r s : ℕ) → bit (w r) s ≡ true → rank n w s < rank n w r
  rank_less r s e = let a = rank_is s in omega (arith, a.exact, (rank_is r).most (waits e a.chain))

-- nothing else is the rank
pub same_rank : {w : ℕ → ℕ} {r j k : ℕ} → IsRank w r j → IsRank w r k → j ≡ k
same_rank a b = omega (arith, a.exact, b.exact, a.most b.chain, b.most a.chain)

-- ---- the table of ranks
module _ (n : ℕ) (t : List ℕ) where
  pub ranks_in : n ≤ width → ranks_of n t ≡ per_router width n (rank n (λ r. get_or t r 0))
  unfolding ranks_of
  ranks_in a = rw (le-leb n width a) refl

  pub ranks_beyond : width < n → ranks_of n t ≡ replicate width 0
  unfolding ranks_of
  ranks_beyond a = rw (lt-leb n width a) refl

  -- the entry of a router, whatever waits for whom
  pub ranks_at : n ≤ width → (r : ℕ) → r < n
      → IsLongest n (λ s. get_or t s 0) (n - 1) r (get_or (ranks_of n t) r 0)
  ranks_at a r l =
      let w : ℕ → ℕ = λ s. get_or t s 0 in
      rw (ranks_in a, per_at width n (rank n w) r l a) (rank_longest n w r)
