-- Laws of the running sheet. Where waiting stays inside the area and comes down in some measure, of the routers that
-- have no place yet the one of least measure waits only for placed ones: so one could come next as long as some are
-- left, and `lowest` finds one. After n places n different routers have one, that is all of them.
--     comes_after, comes_new, could_come_lem       who could come next
--     next_lowest, next_router, next_comes     and who does
--     Acyclic                          waiting of this kind
--     Placed, is_placed                what is known of the first k routers: they are k, with all that they wait for
--     Taken, at_place                  what is known of the router at place k; it is the lowest that could come
--     all_placed, stands_after         every router has a place, after all that it waits for
--     places_differ                    no router has two
--     sheet_size, sheet_at, sheet_beyond, sheet_none       the entries of the sheet of a record
--     sheet_of_lem, sheet_is               it is a running sheet: for every ordered record, and for every plan
--     sheet_refused                    the sheet of a refusal is all zeros
use Prim.Native.Nat.{ℕ, zero, suc, ◌≤◌, ◌<◌}
use Rattle.std.specs.Prelude.{◌≡◌, refl, Bool, true, false, not, ◌&&◌, ◌≢◌, ◌⊎◌, List, length, get_or}
use Rattle.std.proofs.Math.Path.{sym}
use Rattle.std.proofs.Common.{ap, ◌∙◌, subst, inl, inr, eq-or-lt_of_le, le_of_suc-le-suc, not-suc-le-zero, le-leb}
use Rattle.std.proofs.lemmas.Bool.{false≢true, lt-leb, not-true, not-false}
use Rattle.std.proofs.Math.Logic.{⊎_elim}
use Rattle.std.proofs.Math.Decide.{dec_lt, dec_le, ℕ_discrete}
use native.Mathlib.Omega.{arith}
use Rattle.std.proofs.lemmas.List.{length-replicate}
use Rattle.std.proofs.Math.ListN.{get_or-eq_default}
use Rattle.area.specs.Limits.{width}
use Rattle.area.proofs.TestLaws.{look, both_true, and_true}
use Rattle.area.proofs.LowestLaws.{lowest_passes, lowest_some, lowest_below, Least, NoneOrLeast, some_least}
use Rattle.area.proofs.PerRouterLaws.{per_length, per_at, per_beyond, filled_none, filled_all}
use Rattle.sets.specs.Sets.{bit, added, subset}
use Rattle.sets.proofs.SetLaws.{bit_zero, subset_at, at_subset, added_self, added_still, added_cases}
use Rattle.sets.specs.Counts.{size}
use Rattle.sets.proofs.CountLaws.{size_none, size_added, size_within, size_full, size_short}
use Rattle.plan.specs.declared.Record.{Record}
use Rattle.plan.specs.Waiting.{waiting}
use Rattle.plan.specs.Plan.{Tables, are_tables, plan_refusal, zeros, fresh, record_of}
use Rattle.plan.proofs.PlanLaws.{plan_of, planned_true, record_planned, refused_count}
use Rattle.plan.proofs.FreshLaws.{fresh_count, fresh_waiting}
use Rattle.machine.specs.Machine.{waiting_of, rank_of}
use Rattle.machine.proofs.OrderedLaws.{Ordered, fresh_ordered}
use Rattle.sheet.specs.Sheet.{could_come, next_after, placed, place_at, sheet_of, Before, IsSheet}

-- ---- who could come next, and who does
module _ (w : ℕ → ℕ) (s : ℕ) where
  pub comes_after :
      (r : ℕ)
      → could_come w s r ≡ true
      → (v : ℕ)
      → v < width
      → bit (w r) v ≡ true
      → bit s v ≡ true
  comes_after r e = subset_at width (w r) s (both_true (not (bit s r)) (subset width (w r) s) e).1

  pub comes_new : (r : ℕ) → could_come w s r ≡ true → bit s r ≡ false
  comes_new r e = not-true (bit s r) (both_true (not (bit s r)) (subset width (w r) s) e).0

  pub could_come_lem :
      (r : ℕ)
      → bit s r ≡ false
      → ((v : ℕ) → v < width → bit (w r) v ≡ true → bit s v ≡ true)
      → could_come w s r ≡ true
  could_come_lem r e f = and_true (not (bit s r)) (subset width (w r) s) (rw e refl) (at_subset width (w r) s f)

  module _ (n : ℕ) where
    pub next_lowest : (r : ℕ) → r < next_after n w s → could_come w s r ≡ false
    next_lowest = lowest_below (could_come w s) n

    pub next_router : (r : ℕ) → r < n → could_come w s r ≡ true → next_after n w s < n
    next_router r h e = omega (arith, lowest_some (could_come w s) n r h e)

    pub next_comes : (r : ℕ) → r < n → could_come w s r ≡ true → could_come w s (next_after n w s) ≡ true
    next_comes r h e = lowest_passes (could_come w s) n (next_router r h e)

-- ---- waiting without a circle
-- routers wait for routers of the area, and come after them in some measure
pub record Acyclic (n : ℕ) (w : ℕ → ℕ) (measure : ℕ → ℕ) : Type 0 where
  pub most : n ≤ width
  pub inside : (r s : ℕ) → r < n → bit (w r) s ≡ true → s < n
  pub below : (r s : ℕ) → r < n → bit (w r) s ≡ true → measure s < measure r

-- the set s of the first k routers: of the area, k of them, and with each all that it waits for
pub record Placed (n : ℕ) (w : ℕ → ℕ) (k s : ℕ) : Type 0 where
  pub members : (r : ℕ) → bit s r ≡ true → r < n
  pub many : size width s ≡ k
  pub closed : (r v : ℕ) → bit s r ≡ true → bit (w r) v ≡ true → bit s v ≡ true

-- the router a that comes next after those of s
pub record Taken (n : ℕ) (w : ℕ → ℕ) (s a : ℕ) : Type 0 where
  pub router : a < n
  pub new : bit s a ≡ false
  pub after : (v : ℕ) → bit (w a) v ≡ true → bit s v ≡ true
  pub lowest_such : (r : ℕ) → r < a → could_come w s r ≡ false

module _ {n : ℕ} {w measure : ℕ → ℕ} (o : Acyclic n w measure) where
  -- ---- while not all have a place, one could come next
  one_comes : {k s : ℕ} → Placed n w k s → k < n → (r : ℕ) × (r < n) × (could_come w s r ≡ true)
  one_comes {k} {s} p h = ⊎_elim none_left least_comes (some_least (λ r. not (bit s r)) measure n)
    where
      none_left :
          ((r : ℕ) → r < n → not (bit s r) ≡ false)
          → (r : ℕ) × (r < n) × (could_come w s r ≡ true)
      none_left f =
          let within = size_within n width s o.most p.members in
          let full = size_full n s (λ r l. not-false (bit s r) (f r l)) in
          absurd (let x : ⊥ = omega (arith, p.many, within, full) in x)

      -- one of lesser measure has its place
      before :
          (r : ℕ) → Least (λ r. not (bit s r)) measure n r
          → (v : ℕ) → bit (w r) v ≡ true → (bit s v ≡ true) ⊎ (bit s v ≡ false) → bit s v ≡ true
      before r t v e (inl a) = a
      before r t v e (inr a) =
          let less = o.below r v t.below e in
          let least = t.least v (o.inside r v t.below e) (rw a refl) in
          absurd (let x : ⊥ = omega (arith, less, least) in x)

      least_comes :
          ((r : ℕ) × Least (λ r. not (bit s r)) measure n r)
          → (r : ℕ) × (r < n) × (could_come w s r ≡ true)
      least_comes (r, t) =
          let comes = could_come_lem w s r (not-true (bit s r) t.passes) (λ v l e. before r t v e (look (bit s v))) in
          (r, t.below, comes)

  taken : {k s : ℕ} → Placed n w k s → k < n → Taken n w s (next_after n w s)
  taken {k} {s} p h =
      let a = next_after n w s in
      let t = one_comes p h in
      let router = next_router w s n t.0 t.1 t.2 in
      let comes = next_comes w s n t.0 t.1 t.2 in
      record {
        router = router;
        new = comes_new w s a comes;
        after = λ v e. comes_after w s a comes v (omega (arith, o.inside a v router e, o.most)) e;
        lowest_such = next_lowest w s n;
      }

  -- ---- the first k routers
  one_more : {k s a : ℕ} → Placed n w k s → Taken n w s a → Placed n w (suc k) (added width s a)
  one_more {k} {s} {a} p t = record {
    members = λ r e. ⊎_elim (p.members r) (λ (q : r ≡ a). omega (arith, t.router)) (added_cases width s a r e);
    many = size_added width s a (omega (arith, t.router, o.most)) t.new ∙ ap suc p.many;
    closed = λ r v e f.
        let was = waited r v f (added_cases width s a r e) in
        added_still width s a v (omega (arith, p.members v was, o.most)) was;
  }
    where
      waited : (r v : ℕ) → bit (w r) v ≡ true → (bit s r ≡ true) ⊎ (r ≡ a) → bit s v ≡ true
      waited r v f (inl b) = p.closed r v b f
      waited r v f (inr q) = t.after v (ap (λ (x : ℕ). bit (w x) v) (sym q) ∙ f)

  pub is_placed : (k : ℕ) → k ≤ n → Placed n w k (placed n w k)
  unfolding placed
  is_placed zero h = record {
    members = λ r e. absurd (false≢true (sym (bit_zero r) ∙ e));
    many = size_none width;
    closed = λ r v e f. absurd (false≢true (sym (bit_zero r) ∙ e));
  }
  is_placed (suc k) h = let p = is_placed k (omega arith) in one_more p (taken p (omega arith))

  pub at_place : (k : ℕ) → k < n → Taken n w (placed n w k) (place_at n w k)
  at_place k h = taken (is_placed k (omega arith)) h

  pub all_in : (r : ℕ) → r < n → bit (placed n w n) r ≡ true
  all_in r h = ⊎_elim (λ t. t) short (look (bit (placed n w n) r))
    where
      short : bit (placed n w n) r ≡ false → bit (placed n w n) r ≡ true
      short e =
          let p = is_placed n (omega arith) in
          let within = size_within n width (placed n w n) o.most p.members in
          absurd (let x : ⊥ = omega (arith, p.many, within, size_short n (placed n w n) r h e) in x)

  -- ---- places
  -- who is among the first k routers has one of the first k places, and the other way round
  pub has_place :
      (k : ℕ)
      → k ≤ n
      → (r : ℕ)
      → bit (placed n w k) r ≡ true
      → (j : ℕ) × (j < k) × (place_at n w j ≡ r)
  unfolding placed
  has_place zero h r e = absurd (false≢true (sym (bit_zero r) ∙ e))
  has_place (suc k) h r e =
      ⊎_elim
      (λ b. let t = has_place k (omega arith) r b in (t.0, omega (arith, t.1), t.2))
      (λ q. (k, omega arith, sym q))
      (added_cases width (placed n w k) (place_at n w k) r e)

  pub in_place : (k j : ℕ) → k ≤ n → j < k → bit (placed n w k) (place_at n w j) ≡ true
  unfolding placed
  in_place zero j h l = absurd (not-suc-le-zero l)
  in_place (suc k) j h l =
      let wide : (i : ℕ) → i < n → place_at n w i < width = λ i b. omega (arith, (at_place i b).router, o.most) in
      ⊎_elim
      (λ (q : j ≡ k). rw q (added_self width (placed n w k) (place_at n w k) (wide k (omega arith))))
      (λ (b : j < k).
      added_still width (placed n w k) (place_at n w k) (place_at n w j) (wide j (omega arith))
      (in_place k j (omega arith) b))
      (eq-or-lt_of_le (le_of_suc-le-suc l))

  pub all_placed : (r : ℕ) → r < n → (j : ℕ) × (j < n) × (place_at n w j ≡ r)
  all_placed r h = has_place n (omega arith) r (all_in r h)

  pub stands_after :
      (k s : ℕ)
      → k < n
      → bit (w (place_at n w k)) s ≡ true
      → (j : ℕ) × (j < k) × (place_at n w j ≡ s)
  stands_after k s h e = has_place k (omega arith) s ((at_place k h).after s e)

  -- the router at place k is none of those before it
  new_place : (j k : ℕ) → j < k → k < n → place_at n w j ≢ place_at n w k
  new_place j k l h e =
      false≢true
      (sym (at_place k h).new ∙ ap (bit (placed n w k)) (sym e) ∙ in_place k j (omega arith) l)

  pub places_differ : (j k : ℕ) → j < n → k < n → place_at n w j ≡ place_at n w k → j ≡ k
  places_differ j k a b e = elim (ℕ_discrete j k) [
    | yes q ↦ q
    | no f ↦ elim (dec_lt j k) [
      | yes l ↦ absurd (new_place j k l b e)
      | no g ↦ absurd (new_place k j (omega arith) a (sym e))
    ]
  ]

  -- v is one that r waits for, and none of the first k routers
  abbrev missing : (k r v : ℕ) → Bool
  missing k r v = bit (w r) v && not (bit (placed n w k) v)

  -- a lower number stands before, or waits for one that does not
  pub lower_waits :
      (k r : ℕ) → k < n → r < place_at n w k
      → ((j : ℕ) × (j < k) × (place_at n w j ≡ r))
      ⊎ ((s : ℕ) × (bit (w r) s ≡ true) × (bit (placed n w k) s ≡ false))
  lower_waits k r h l =
      ⊎_elim
      (λ e. inl (has_place k (omega arith) r e))
      (λ f. inr (waits f (some_least (missing k r) (λ v. v) width)))
      (look (bit (placed n w k) r))
    where
      here : (v : ℕ) → missing k r v ≡ false → bit (w r) v ≡ true → bit (placed n w k) v ≡ true
      here v f e = not-false (bit (placed n w k) v) (rw e at f)

      -- all that r waits for are placed, so it could have come
      could : bit (placed n w k) r ≡ false → ((v : ℕ) → v < width → missing k r v ≡ false) → ⊥
      could f none =
          let comes = could_come_lem w (placed n w k) r f (λ v b. here v (none v b)) in
          false≢true (sym ((at_place k h).lowest_such r l) ∙ comes)

      waits :
          bit (placed n w k) r ≡ false
          → NoneOrLeast (missing k r) (λ v. v) width
          → (s : ℕ) × (bit (w r) s ≡ true) × (bit (placed n w k) s ≡ false)
      waits f (inl none) = absurd (could f none)
      waits f (inr (v, t)) =
          let both = both_true (bit (w r) v) (not (bit (placed n w k) v)) t.passes in
          (v, both.0, not-true (bit (placed n w k) v) both.1)

-- ---- the sheet of a record
module _ (r : Record) where
  abbrev place : (k : ℕ) → ℕ
  place k = place_at r.n (waiting_of r) k

  pub sheet_size : length (sheet_of r) ≡ width
  unfolding sheet_of
  sheet_size = elim (dec_le r.n width) [
    | yes h ↦ rw (le-leb r.n width h) (per_length width r.n _)
    | no f ↦ rw (lt-leb r.n width (omega arith)) (length-replicate {A = ℕ} width 0)
  ]

  pub sheet_at : r.n ≤ width → (k : ℕ) → k < r.n → get_or (sheet_of r) k 0 ≡ place_at r.n (waiting_of r) k
  unfolding sheet_of
  sheet_at most k h = rw (le-leb r.n width most) (per_at width r.n place k h most)

  pub sheet_beyond : (k : ℕ) → r.n ≤ k → get_or (sheet_of r) k 0 ≡ 0
  unfolding sheet_of
  sheet_beyond k h = elim (dec_lt k width) [
    | yes l ↦ rw (le-leb r.n width (omega arith)) (per_beyond width r.n _ k h l)
    | no f ↦ get_or-eq_default (sheet_of r) 0 (omega (arith, sheet_size))
  ]

  pub sheet_none : r.n ≡ 0 → sheet_of r ≡ zeros
  unfolding sheet_of
  sheet_none z =
      let first = place_at 0 (waiting_of r) in
      rw z (sym (filled_all width 0 first zeros (filled_none width first)))

module _ {r : Record} (o : Ordered r) where
  pub ordered_acyclic : Acyclic r.n (waiting_of r) (rank_of r)
  ordered_acyclic = record { most = o.most; inside = o.inside; below = o.below }

  -- a place among the first k, seen on the sheet
  before : (k s : ℕ) → k ≤ r.n → ((j : ℕ) × (j < k) × (place r j ≡ s)) → Before (sheet_of r) k s
  before k s h (j, l, e) = (j, l, sheet_at r o.most j (omega arith) ∙ e)

  not_before :
      (k s : ℕ)
      → k ≤ r.n
      → bit (placed r.n (waiting_of r) k) s ≡ false
      → Before (sheet_of r) k s
      → ⊥
  not_before k s h f (j, l, e) =
      let stands = sym (sheet_at r o.most j (omega arith)) ∙ e in
      let among = in_place ordered_acyclic k j h l in
      false≢true (sym f ∙ ap (bit (placed r.n (waiting_of r) k)) (sym stands) ∙ among)

  pub sheet_of_lem : IsSheet r.n (waiting_of r) (sheet_of r)
  sheet_of_lem = record {
    size = sheet_size r;
    router = λ k h. omega (arith, at k h, (at_place ordered_acyclic k h).router);
    rest = sheet_beyond r;
    all = λ x h. before r.n x (omega arith) (all_placed ordered_acyclic x h);
    once = λ j k a b e. places_differ ordered_acyclic j k a b (sym (at j a) ∙ e ∙ at k b);
    after = λ k s h e.
        before k s (omega arith)
        (stands_after ordered_acyclic k s h (ap (λ (x : ℕ). bit (waiting_of r x) s) (sym (at k h)) ∙ e));
    lowest = λ k x h l.
        ⊎_elim
        (λ t. inl (before k x (omega arith) t))
        (λ t. inr (t.0, t.1, not_before k t.0 (omega arith) t.2))
        (lower_waits ordered_acyclic k x h (omega (arith, at k h)));
  }
    where
      at : (k : ℕ) → k < r.n → get_or (sheet_of r) k 0 ≡ place r k
      at = sheet_at r o.most

-- who waits for whom matters only among the n routers
same_waiting :
    {n : ℕ} {w v : ℕ → ℕ} {sheet : List ℕ}
    → ((r : ℕ) → r < n → w r ≡ v r)
    → IsSheet n w sheet
    → IsSheet n v sheet
same_waiting {n} {w} {v} {sheet} same s = record {
  size = s.size;
  router = s.router;
  rest = s.rest;
  all = s.all;
  once = s.once;
  after = λ k x h e. s.after k x h (member (get_or sheet k 0) x (s.router k h) ∙ e);
  lowest = λ k r h l.
      ⊎_elim inl
      (λ t. inr (t.0, sym (member r t.0 (omega (arith, s.router k h))) ∙ t.1, t.2))
      (s.lowest k r h l);
}
  where
    member : (r x : ℕ) → r < n → bit (w r) x ≡ bit (v r) x
    member r x h = ap (λ (y : ℕ). bit y x) (same r h)

-- ---- the sheet of a plan, and of a refusal
module _ (n hold step : ℕ) (m l : List ℕ) (t : Tables) where
  pub sheet_is :
      plan_refusal n step m l (are_tables m t) ≡ 0
      → IsSheet n (waiting n m l) (sheet_of (record_of n hold step m l t))
  sheet_is z =
      let p = plan_of n step m l t z in
      let count = fresh_count n hold step m l in
      let is = same_waiting
      (λ r h. fresh_waiting n hold step m l p.ready.most r (omega (arith, count)))
      (sheet_of_lem (fresh_ordered n hold step m l p)) in
      rw (record_planned n hold step m l t (planned_true n step m l t z))
      (subst (λ (k : ℕ). IsSheet k (waiting n m l) (sheet_of (fresh n hold step m l))) count is)

  pub sheet_refused : plan_refusal n step m l (are_tables m t) ≢ 0 → sheet_of (record_of n hold step m l t) ≡ zeros
  sheet_refused f = sheet_none (record_of n hold step m l t) (refused_count n hold step m l t f)
