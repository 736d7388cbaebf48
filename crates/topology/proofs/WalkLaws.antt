-- Laws of walks. Where a walk meets a router twice, the way round from there can be left out; metrics are not negative,
-- so the sum is no larger. What is left meets each router once, and there are n of them.
--     Graph n g        what they need of a topology: n routers, few enough; links only between them; no metric is 0
--     then, by_last    one walk after another; a walk taken apart at its last link
--     simple           a walk can be made to meet no router twice, at no larger sum
--     few_links        a walk that meets no router twice takes fewer links than there are routers
--     shorten          so each walk can be made to take fewer links than there are routers, at no larger sum
use Rattle.std.specs.Prelude.{ℕ, suc, ◌+◌, ◌-◌, ◌≤◌, ◌<◌, ◌≡◌, refl, length}
use Rattle.std.proofs.Common.{sym, ap, subst, inl, inr, arith}
use Rattle.area.specs.Limits.{unused}
use Rattle.area.specs.Lists.{◌∈◌, Distinct, Below}
use Rattle.area.proofs.MemberLaws.{member?}
use Rattle.area.proofs.PigeonholeLaws.{pigeonhole}
use Rattle.topology.specs.Topology.{Topology}
use Rattle.topology.specs.Walk.{Walk, stay, link, sum, links, routers}
use Rattle.topology.specs.Graph.{Graph}

module _ {g : Topology} where
  -- ---- one walk after another
  abbrev pub then : {i k j : ℕ} → Walk g i k → Walk g k j → Walk g i j
  then stay v = v
  then (link u w) v = link u (then w v)

  pub sum_then : {i k j : ℕ} (w : Walk g i k) (v : Walk g k j) → sum (then w v) ≡ sum w + sum v
  sum_then stay v = omega arith
  sum_then (link {i} {k} u w) v = omega (arith, sum_then w v)

  pub links_then : {i k j : ℕ} (w : Walk g i k) (v : Walk g k j) → links (then w v) ≡ links w + links v
  links_then stay v = omega arith
  links_then (link u w) v = omega (arith, links_then w v)

  -- ---- a walk by its last link: a walk to some p, and a link from there
  pub data Last {i j : ℕ} (w : Walk g i j) : Type 0 where
    here : i ≡ j → sum w ≡ 0 → Last w
    last : (p : ℕ) (v : Walk g i p) (u : g p j < unused) → sum v + g p j ≡ sum w → Last w

  last_link : {i k j : ℕ} (u : g i k < unused) (w : Walk g k j) → Last w → Last (link u w)
  last_link {i} {k} {j} u w (here e z) =
      last i stay (subst (λ (x : ℕ). g i x < unused) e u) (omega (arith, ap (λ (x : ℕ). g i x) e))
  last_link {i} {k} u w (last p v x e) = last p (link u v) x (omega (arith, e))

  pub by_last : {i j : ℕ} (w : Walk g i j) → Last w
  by_last stay = here refl refl
  by_last (link u w) = last_link u w (by_last w)

  -- ---- the same walk, from a router that is the same
  abbrev Same : (i : ℕ) {k j : ℕ} (w : Walk g k j) → Type 0
  Same i {j} w = (v : Walk g i j) × (sum v ≡ sum w) × (routers v ≡ routers w)

  moved : {i k j : ℕ} → i ≡ k → (w : Walk g k j) → Same i w
  moved {j} e w = subst (λ (x : ℕ). Same x w) (sym e) (w, refl, refl)

  -- ---- the rest of a walk, from a router that it meets
  pub record Rest (i : ℕ) {k j : ℕ} (w : Walk g k j) : Type 0 where
    pub walk : Walk g i j
    pub shorter : sum walk ≤ sum w
    pub distinct : Distinct (routers w) → Distinct (routers walk)

  whole : {i k j : ℕ} → i ≡ k → (w : Walk g k j) → Rest i w
  whole e w =
      let t = moved e w in
      record { walk = t.0; shorter = omega (arith, t.1); distinct = λ d. subst Distinct (sym t.2) d }

  pub rest : (i : ℕ) {k j : ℕ} (w : Walk g k j) → i ∈ routers w → Rest i w
  rest i stay (inl e) = whole e stay
  rest i stay (inr m) = absurd m
  rest i (link u w) (inl e) = whole e (link u w)
  rest i (link u w) (inr m) =
      let r = rest i w m in
      record { walk = r.walk; shorter = omega (arith, r.shorter); distinct = λ d. r.distinct d.1 }

  -- ---- a walk of the same ends that meets no router twice
  pub record Simple {i j : ℕ} (w : Walk g i j) : Type 0 where
    pub walk : Walk g i j
    pub distinct : Distinct (routers walk)
    pub shorter : sum walk ≤ sum w

  simple_link :
      {i k j : ℕ} (u : g i k < unused) (w : Walk g k j) (v : Simple w)
      → Dec (i ∈ routers v.walk)
      → Simple (link u w)
  simple_link {i} {k} u w v (yes m) =
      let r = rest i v.walk m in
      let le : sum r.walk ≤ g i k + sum w = omega (arith, r.shorter, v.shorter) in
      record { walk = r.walk; distinct = r.distinct v.distinct; shorter = le }
  simple_link u w v (no f) =
      record { walk = link u v.walk; distinct = (f, v.distinct); shorter = omega (arith, v.shorter) }

  pub simple : {i j : ℕ} (w : Walk g i j) → Simple w
  simple stay = record { walk = stay; distinct = ((λ m. m), tt); shorter = omega arith }
  simple (link {i} u w) = let v = simple w in simple_link u w v (member? i (routers v.walk))

  routers_links : {i j : ℕ} (w : Walk g i j) → length (routers w) ≡ suc (links w)
  routers_links stay = refl
  routers_links (link u w) = ap suc (routers_links w)

  module _ {n : ℕ} (G : Graph n g) where
    routers_below : {i j : ℕ} (w : Walk g i j) → i < n → Below n (routers w)
    routers_below stay h x (inl e) = omega arith
    routers_below stay h x (inr m) = absurd m
    routers_below (link u w) h x (inl e) = omega arith
    routers_below (link {i} {k} u w) h x (inr m) = routers_below w (G.inside i k u).1 x m

    pub few_links : {i j : ℕ} (w : Walk g i j) → Distinct (routers w) → links w ≤ n - 1
    few_links stay d = omega arith
    few_links (link {i} {k} u w) d =
        let below = routers_below (link u w) (G.inside i k u).0 in
        omega (arith, routers_links (link u w), pigeonhole n (routers (link u w)) d below)

    pub shorten : {i j : ℕ} (w : Walk g i j) → (v : Walk g i j) × (links v ≤ n - 1) × (sum v ≤ sum w)
    shorten w = let v = simple w in (v.walk, few_links v.walk v.distinct, v.shorter)
