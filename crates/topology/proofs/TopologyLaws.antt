-- What the topology of a metric table has of a graph, and how two of them compare. It follows from what
-- `is_link` tests.
--     Link             what a used link is
--     used_true, true_used     the metrics that it can have
--     link_back        it is used in both directions
--     link_metric      its metric is the table's
--     metric_link      what has a metric below `unused` is one
--     no_link          the others have `unused`
--     topology_graph   so the topology is a graph
--     topology_top     no metric is above `unused`
--     topology_same    two topologies, by their metric tables
--     usable_many, usable_sized, usable_is
--                      the usable metric, as code reads it
--     links, usables   the laws by which code finds either metric
use Rattle.std.specs.Prelude.{ℕ, ◌*◌, ◌≤◌, ◌<◌, ◌≡◌, true, not, ◌&&◌, ◌≢◌, List, ltb, leb, eqb, length}
use Rattle.std.proofs.Math.Path.{refl}
use Rattle.std.proofs.Common.{sym, ◌∙◌, ⊎_elim, arith, ltb-true, leb-true, lt-ltb, le-leb, ne_eqb}
use Rattle.std.proofs.Math.Bool.{false}
use Rattle.std.proofs.Math.Decide.{dec_lt}
use Rattle.std.proofs.lemmas.Bool.{false≢true, eqb-false, not-true, lt-leb}
use Rattle.area.specs.Limits.{width, unused}
use Rattle.area.specs.Tables.{cell}
use Rattle.area.proofs.TestLaws.{look, both_true, and_false}
use Rattle.area.proofs.SizeLaws.{table_true, table_false}
use Rattle.topology.specs.Topology.{is_used, is_link, topology}
use Rattle.topology.specs.Usable.{usable}
use Rattle.topology.specs.Graph.{Graph}

-- what a used link is
pub record Link (n : ℕ) (m : List ℕ) (i j : ℕ) : Type 0 where
  pub from : i < n
  pub to : j < n
  pub other : i ≢ j
  pub positive : 1 ≤ cell width m i j
  pub used : cell width m i j < unused
  pub back_positive : 1 ≤ cell width m j i
  pub back_used : cell width m j i < unused

pub link_back : {n : ℕ} {m : List ℕ} {i j : ℕ} → Link n m i j → Link n m j i
link_back l = record {
  from = l.to;
  to = l.from;
  other = λ e. l.other (sym e);
  positive = l.back_positive;
  used = l.back_used;
  back_positive = l.positive;
  back_used = l.used;
}

pub used_true : (x : ℕ) → is_used x ≡ true → (1 ≤ x) × (x < unused)
used_true x e =
    let b = both_true (leb 1 x) (ltb x unused) e in
    (leb-true 1 x b.0, ltb-true x unused b.1)

pub true_used : (x : ℕ) → 1 ≤ x → x < unused → is_used x ≡ true
true_used x a b = rw (le-leb 1 x a) (lt-ltb x unused b)

link_true : (n : ℕ) (m : List ℕ) (i j : ℕ) → is_link n m i j ≡ true → Link n m i j
unfolding is_link
link_true n m i j e =
    let x = is_used (cell width m i j) in
    let y = is_used (cell width m j i) in
    let a = both_true (ltb i n) (ltb j n && (not (eqb i j) && (x && y))) e in
    let b = both_true (ltb j n) (not (eqb i j) && (x && y)) a.1 in
    let d = both_true (not (eqb i j)) (x && y) b.1 in
    let f = both_true x y d.1 in
    let there = used_true (cell width m i j) f.0 in
    let back = used_true (cell width m j i) f.1 in
    record {
      from = ltb-true i n a.0;
      to = ltb-true j n b.0;
      other = eqb-false i j (not-true (eqb i j) d.0);
      positive = there.0;
      used = there.1;
      back_positive = back.0;
      back_used = back.1;
    }

true_link : {n : ℕ} {m : List ℕ} {i j : ℕ} → Link n m i j → is_link n m i j ≡ true
unfolding is_link
true_link {n} {m} {i} {j} l =
    rw (lt-ltb i n l.from, lt-ltb j n l.to, ne_eqb i j l.other)
    (rw (true_used (cell width m i j) l.positive l.used)
    (true_used (cell width m j i) l.back_positive l.back_used))

-- the metric of a used link is the table's
pub link_metric : {n : ℕ} {m : List ℕ} {i j : ℕ} → Link n m i j → topology n m i j ≡ cell width m i j
unfolding topology
link_metric l = rw (true_link l) refl

-- what the topology has below `unused` is a used link
pub metric_link : (n : ℕ) (m : List ℕ) (i j : ℕ) → topology n m i j < unused → Link n m i j
unfolding topology
metric_link n m i j h =
    ⊎_elim (link_true n m i j)
    (λ e. absurd (let x = rw e at h in let y : ⊥ = omega arith in y))
    (look (is_link n m i j))

-- where there is none, it has `unused`
pub no_link : (n : ℕ) (m : List ℕ) (i j : ℕ) → (Link n m i j → ⊥) → topology n m i j ≡ unused
unfolding topology
no_link n m i j f =
    ⊎_elim (λ t. absurd (f (link_true n m i j t))) (λ e. rw e refl) (look (is_link n m i j))

pub topology_graph : (n : ℕ) (m : List ℕ) → n ≤ width → Graph n (topology n m)
topology_graph n m h = record {
  few = omega arith;
  inside = λ i j u. let l = metric_link n m i j u in (l.from, l.to);
  positive = λ i j u. let l = metric_link n m i j u in rw (link_metric l) l.positive;
}

-- ---- two topologies, by their metric tables
pub topology_top : (n : ℕ) (m : List ℕ) (i j : ℕ) → topology n m i j ≤ unused
unfolding topology
topology_top n m i j =
    ⊎_elim
    (λ e. let l = link_true n m i j e in rw e (omega (arith, l.used)))
    (λ e. rw e (omega arith))
    (look (is_link n m i j))

-- where the metrics of a pair are the same in both directions, so are the two topologies
pub topology_same :
    (n : ℕ) (m o : List ℕ) (i j : ℕ)
    → (i < n → j < n → i ≢ j → (cell width m i j ≡ cell width o i j) × (cell width m j i ≡ cell width o j i))
    → topology n m i j ≡ topology n o i j
topology_same n m o i j same =
    omega (arith, at_most m o same, at_most o m (λ a b f. let e = same a b f in (sym e.0, sym e.1)))
  where
    at_most :
        (m o : List ℕ)
        → (i < n → j < n → i ≢ j → (cell width m i j ≡ cell width o i j) × (cell width m j i ≡ cell width o j i))
        → topology n m i j ≤ topology n o i j
    at_most m o same = elim (dec_lt (topology n o i j) unused) [
      | yes h ↦
          let b = metric_link n o i j h in
          let e = same b.from b.to b.other in
          let a : Link n m i j = record {
            from = b.from;
            to = b.to;
            other = b.other;
            positive = omega (arith, e.0, b.positive);
            used = omega (arith, e.0, b.used);
            back_positive = omega (arith, e.1, b.back_positive);
            back_used = omega (arith, e.1, b.back_used);
          } in
          omega (arith, link_metric a, link_metric b, e.0)
      | no h ↦ omega (arith, topology_top n m i j)
    ]

-- ---- the usable metric, by n and the size of the table
module _ (n : ℕ) (m : List ℕ) (i j : ℕ) where
  pub usable_many : width < n → usable n m i j ≡ unused
  unfolding usable
  usable_many a = rw (lt-leb n width a) refl

  pub usable_sized : length m ≢ width * width → usable n m i j ≡ unused
  unfolding usable
  usable_sized a = rw (table_false m a, and_false (leb n width) false refl) refl

  pub usable_is : n ≤ width → length m ≡ width * width → usable n m i j ≡ topology n m i j
  unfolding usable
  usable_is a b = rw (le-leb n width a, table_true m b) refl

-- ---- the metric of a pair of the topology, by the tests of code
module _ (n : ℕ) (m : List ℕ) (i j : ℕ) where
  pub link_from : n ≤ i → topology n m i j ≡ unused
  link_from h = no_link n m i j (λ l. omega (arith, l.from))

  pub link_to : n ≤ j → topology n m i j ≡ unused
  link_to h = no_link n m i j (λ l. omega (arith, l.to))

  pub link_self : i ≡ j → topology n m i j ≡ unused
  link_self e = no_link n m i j (λ l. l.other e)

  -- a metric at which no link can be used, in one direction or the other
  pub link_there : is_used (cell width m i j) ≡ false → topology n m i j ≡ unused
  link_there e =
      no_link n m i j (λ l. false≢true (sym e ∙ true_used (cell width m i j) l.positive l.used))

  pub link_not_back : is_used (cell width m j i) ≡ false → topology n m i j ≡ unused
  link_not_back e =
      no_link n m i j (λ l. false≢true (sym e ∙ true_used (cell width m j i) l.back_positive l.back_used))

  pub link_both :
      i < n
      → j < n
      → i ≢ j
      → is_used (cell width m i j) ≡ true
      → is_used (cell width m j i) ≡ true
      → topology n m i j ≡ cell width m i j
  link_both a b f there back =
      let x = used_true (cell width m i j) there in
      let y = used_true (cell width m j i) back in
      link_metric (record {
        from = a;
        to = b;
        other = f;
        positive = x.0;
        used = x.1;
        back_positive = y.0;
        back_used = y.1;
      })

pub ruleset links = (link_from, link_to, link_self, link_there, link_not_back, link_both)

pub ruleset usables = (usable_many, usable_sized, usable_is)
