-- Laws of the order by the full next-hop sets, and of what is due by the sets of four.
--     telling_same, ranks_same         the sets of n routers decide who tells whom, and the ranks
--     row_length, row_at               a row of a table, as a slice of it
--     readable_is, readable_false, readable_sizes      whether tables can be read, and what is known where they can
--     order_of_lem, order_none         the order is taken from the tables, or nothing, by `is_orderable`
--     orderable_many, orderable_root, orderable_old, orderable_last, orderable_sizes       the tests of `is_orderable`,
--                                      one after another, and what is known where all hold
--     order_read, order_unread         the same by the root and by whether the tables can be read
--     order_waiting, order_telling, order_ranks        its parts, where n is at most the width, the root is below it,
--                                      and the tables have their size
--     due_read, due_none               what is due by tables that can be read, and by others
--     due_of_lem, due_many, due_old, due_new       the same, test by test
use Rattle.std.specs.List.{slice_range}
use Rattle.std.proofs.lemmas.List.{get_or-drop, get_or-take}
use Rattle.std.proofs.Common.{◌∙◌, arith, drop, length-take, length-drop}
use Rattle.std.specs.Prelude.{◌+◌, ◌-◌, ◌⊎◌, get_or}
use Rattle.std.specs.Prelude.{ℕ, ◌*◌, ◌≤◌, ◌<◌, ◌≡◌, Bool, true, false, ◌&&◌, ◌≢◌}
use Rattle.std.specs.Prelude.{List, ltb, leb, eqb, length, replicate}
use Rattle.std.proofs.Math.Path.{refl, ap}
use Rattle.std.proofs.Common.{inl, inr, ⊎_elim}
use borrow.Author.Tests.{ltb-true, leb-true, le-leb, lt-leb, lt-ltb, le-ltb}
use Rattle.area.specs.Limits.{width}
use Rattle.area.proofs.TestLaws.{look, both_true, and_false}
use Rattle.area.specs.Tables.{cell, per_router}
use Rattle.area.proofs.PerRouterLaws.{per_same}
use Rattle.area.specs.Sizes.{is_table}
use Rattle.area.proofs.SizeLaws.{table_is, table_true, table_false, table_size_lem}
use Rattle.sets.specs.Sets.{bit}
use Rattle.sets.proofs.SetLaws.{set_of_same}
use Rattle.ranks.specs.Rank.{rank}
use Rattle.ranks.proofs.RankLaws.{rank_same}
use Rattle.order.specs.declared.Order.{Order}
use Rattle.order.specs.Order.{waiting_by, telling_by, due_by, is_orderable, ordered, no_order, order_of, due_table}

-- ---- what the sets of n routers decide
module _ (w n : ℕ) (f g : ℕ → ℕ) (most : n ≤ w) (same : (s : ℕ) → s < n → f s ≡ g s) where
  pub telling_same : per_router w n (telling_by n f) ≡ per_router w n (telling_by n g)
  telling_same =
      per_same w n (telling_by n f) (telling_by n g) most
      (λ r a. set_of_same n (λ s. bit (f s) r) (λ s. bit (g s) r) (λ s h. ap (λ (x : ℕ). bit x r) (same s h)))

  pub ranks_same : per_router w n (rank n f) ≡ per_router w n (rank n g)
  ranks_same = per_same w n (rank n f) (rank n g) most (rank_same n f g same)

-- ---- the rows of two tables
pub row_length : (t : List ℕ) (a n : ℕ) → a + n ≤ length t → length (slice_range t a (a + n)) ≡ n
row_length t a n h = omega (arith, length-take (a + n - a) (drop a t), length-drop a t)

pub row_at : (t : List ℕ) (a n d : ℕ) → d < n → get_or (slice_range t a (a + n)) d 0 ≡ get_or t (a + d) 0
row_at t a n d h = get_or-take (a + n - a) (drop a t) d 0 (omega arith) ∙ get_or-drop a t d 0

-- ---- the tests, one after another
module _ (n c : ℕ) (old new : List ℕ) where
  pub orderable_many : width < n → is_orderable n c old new ≡ false
  unfolding is_orderable
  orderable_many a = rw (lt-leb n width a) refl

  module _ (a : n ≤ width) where
    pub orderable_root : width ≤ c → is_orderable n c old new ≡ false
    unfolding is_orderable
    orderable_root b = rw (le-leb n width a, le-ltb c width b) refl

    module _ (b : c < width) where
      pub orderable_old : length old ≢ width * width → is_orderable n c old new ≡ false
      unfolding is_orderable
      orderable_old f = rw (le-leb n width a, lt-ltb c width b, table_false old f) refl

      pub orderable_last : length old ≡ width * width → is_orderable n c old new ≡ eqb (length new) (width * width)
      unfolding is_orderable
      orderable_last e = rw (le-leb n width a, lt-ltb c width b, table_true old e, table_is new) refl

  pub orderable_sizes :
      is_orderable n c old new ≡ true
      → (n ≤ width) × (c < width) × (length old ≡ width * width) × (length new ≡ width * width)
  unfolding is_orderable
  orderable_sizes e =
      let p = both_true (leb n width) _ e in
      let q = both_true (ltb c width) _ p.1 in
      let r = both_true (is_table old) (is_table new) q.1 in
      (leb-true n width p.0, ltb-true c width q.0, table_size_lem old r.0, table_size_lem new r.1)

  -- ---- the order where they hold, and where one does not
  module _ (rising : Bool) where
    pub order_of_lem : is_orderable n c old new ≡ true → order_of n c rising old new ≡ ordered n c rising old new
    unfolding order_of
    order_of_lem e = rw e refl

    pub order_none : is_orderable n c old new ≡ false → order_of n c rising old new ≡ no_order
    unfolding order_of
    order_none e = rw e refl

-- ---- whether the tables can be read
module _ (n : ℕ) (old new : List ℕ) where
  abbrev pub readable : Bool
  readable = leb n width && (is_table old && is_table new)

  pub readable_is : n ≤ width → length old ≡ width * width → eqb (length new) (width * width) ≡ readable
  readable_is a x = rw (le-leb n width a, table_true old x, table_is new) refl

  pub readable_false : ((n ≤ width) × (length old ≢ width * width)) ⊎ (width < n) → readable ≡ false
  readable_false (inl f) = rw (le-leb n width f.0, table_false old f.1) refl
  readable_false (inr f) = rw (lt-leb n width f) refl

  pub readable_sizes :
      readable ≡ true → (n ≤ width) × (length old ≡ width * width) × (length new ≡ width * width)
  readable_sizes e =
      let p = both_true (leb n width) (is_table old && is_table new) e in
      let q = both_true (is_table old) (is_table new) p.1 in
      (leb-true n width p.0, table_size_lem old q.0, table_size_lem new q.1)

  readable_true : n ≤ width → length old ≡ width * width → length new ≡ width * width → readable ≡ true
  readable_true a x y = rw (le-leb n width a, table_true old x) (table_true new y)

  -- what is due, where they can be read and where they cannot
  pub due_read : readable ≡ true → due_table n old new ≡ per_router width n (due_by n (cell width old) (cell width new))
  unfolding due_table
  due_read e = rw e refl

  pub due_none : readable ≡ false → due_table n old new ≡ replicate width 0
  unfolding due_table
  due_none e = rw e refl

  pub due_many : width < n → due_table n old new ≡ replicate width 0
  unfolding due_table
  due_many a = rw (lt-leb n width a) refl

  pub due_old : length old ≢ width * width → due_table n old new ≡ replicate width 0
  unfolding due_table
  due_old f = rw (and_false (leb n width) (is_table old && is_table new) (rw (table_false old f) refl)) refl

  pub due_new : length new ≢ width * width → due_table n old new ≡ replicate width 0
  unfolding due_table
  due_new f =
      let short = and_false (is_table old) (is_table new) (table_false new f) in
      rw (and_false (leb n width) (is_table old && is_table new) short) refl

  pub due_of_lem :
      n ≤ width
      → length old ≡ width * width
      → length new ≡ width * width
      → due_table n old new ≡ per_router width n (due_by n (cell width old) (cell width new))
  due_of_lem a x y = due_read (readable_true a x y)

module _ (n c : ℕ) (old new : List ℕ) (rising : Bool) where
  -- the order, where the tables can be read for the root too, and where they cannot
  pub order_read : c < width → readable n old new ≡ true → order_of n c rising old new ≡ ordered n c rising old new
  unfolding order_of is_orderable
  order_read b e =
      let s = readable_sizes n old new e in
      rw (le-leb n width s.0, lt-ltb c width b, table_true old s.1, table_true new s.2) refl

  pub order_unread : (width ≤ c) ⊎ (readable n old new ≡ false) → order_of n c rising old new ≡ no_order
  unfolding order_of is_orderable
  order_unread (inl b) = rw (le-ltb c width b, and_false (leb n width) false refl) refl
  order_unread (inr e) =
      ⊎_elim
      (λ t. rw (t, and_false (ltb c width) (is_table old && is_table new) (rw t at e)) refl)
      (λ t. rw t refl)
      (look (leb n width))

  module _
      (a : n ≤ width) (b : c < width) (x : length old ≡ width * width) (y : length new ≡ width * width) where
    order_is : order_of n c rising old new ≡ ordered n c rising old new
    order_is = order_read b (readable_true n old new a x y)

    pub order_waiting :
        (order_of n c rising old new).waiting
        ≡ per_router width n (waiting_by n c rising (cell width old) (cell width new))
    unfolding ordered
    order_waiting = ap (λ (o : Order). o.waiting) order_is

    pub order_telling :
        (order_of n c rising old new).telling
        ≡ per_router width n (telling_by n (waiting_by n c rising (cell width old) (cell width new)))
    unfolding ordered
    order_telling = ap (λ (o : Order). o.telling) order_is

    pub order_ranks :
        (order_of n c rising old new).ranks
        ≡ per_router width n (rank n (waiting_by n c rising (cell width old) (cell width new)))
    unfolding ordered
    order_ranks = ap (λ (o : Order). o.ranks) order_is
