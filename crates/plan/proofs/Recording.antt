-- The record of a plan, put together from the order that the full next-hop sets give and from what is due by the sets
-- of four. `t` are the tables that are filled: their cells are the sets of the two topologies (FilledLaws.antt).
--     waiting_at, telling_of_lem, due_is       so the sets that are found from them are those of specs/Waiting.antt
--     fresh_is                 and the record is `fresh`
use Rattle.std.proofs.Common.{ℕ, ◌≤◌, ◌<◌, ◌≡◌, refl, ap, ap₂, ◌∙◌, Bool, not, List, arith, eqb}
use Rattle.area.specs.Limits.{width}
use Rattle.area.specs.Tests.{pick}
use Rattle.area.specs.Tables.{cell, per_router}
use Rattle.area.proofs.PerRouterLaws.{per_same}
use Rattle.sets.specs.Sets.{bit}
use Rattle.sets.proofs.SetLaws.{set_of_same}
use Rattle.order.specs.Order.{waiting_by, telling_by, due_by, order_of, due_table}
use Rattle.order.proofs.OrderLaws.{telling_same, ranks_same, order_waiting, order_telling, order_ranks, due_of_lem}
use Rattle.plan.specs.Direction.{is_rise}
use Rattle.changes.specs.Root.{root}
use Rattle.plan.specs.Waiting.{old_hops, old_fours, new_fours, waiting, telling, due}
use Rattle.plan.specs.Plan.{Tables, fresh, filled}
use Rattle.plan.proofs.PlanLaws.{filled_size}
use Rattle.plan.proofs.FilledLaws.{filled_old_hops, filled_new_hops, filled_old_fours, filled_new_fours}
use Rattle.plan.specs.Parts.{started}

module _ (n h s : ℕ) (m l : List ℕ) (most : n ≤ width) (c : root l < n) where
  abbrev t : Tables
  t = filled n m l

  abbrev sets : (table : List ℕ) (i j : ℕ) → ℕ
  sets = cell width

  due_is : due_table n t.old.fours t.new.fours ≡ per_router width n (due n m l)
  unfolding due
  due_is =
      let size = filled_size n m l in
      due_of_lem n t.old.fours t.new.fours most size.old.fours size.new.fours
      ∙ per_same width n (due_by n (sets t.old.fours) (sets t.new.fours)) (due n m l) most
      (λ r a. set_of_same n
      (λ d. not (eqb (sets t.old.fours r d) (sets t.new.fours r d)))
      (λ d. not (eqb (old_fours n m r d) (new_fours n m l r d)))
      (λ d b. ap₂ (λ (x y : ℕ). not (eqb x y)) (filled_old_fours n m l most r d b) (filled_new_fours n m l most r d b)))

  -- whom the tables say that a router waits for
  abbrev waits_for : ℕ → ℕ
  waits_for = waiting_by n (root l) (is_rise n m l) (sets t.old.hops) (sets t.new.hops)

  waiting_at : (r : ℕ) → r < n → waits_for r ≡ waiting n m l r
  unfolding waiting
  waiting_at r a =
      ap₂ (λ (x y : ℕ). pick (is_rise n m l) x y)
      (set_of_same n
      (λ s. bit (sets t.old.hops s (root l)) r)
      (λ s. bit (old_hops n m s (root l)) r)
      (λ s b. ap (λ (x : ℕ). bit x r) (filled_old_hops n m l most s (root l) c)))
      (filled_new_hops n m l most r (root l) c)

  telling_of_lem : per_router width n (telling_by n waits_for) ≡ per_router width n (telling n m l)
  unfolding telling
  telling_of_lem = telling_same width n waits_for (waiting n m l) most waiting_at

  -- What the record is made of is what each of its fields is to be.
  made_is :
      started n h s (root l) (is_rise n m l)
      (order_of n (root l) (is_rise n m l) t.old.hops t.new.hops)
      (due_table n t.old.fours t.new.fours)
      ≡ fresh n h s m l
  unfolding fresh
  made_is =
      let rising = is_rise n m l in
      let size = filled_size n m l in
      let low : root l < width = omega arith in
      let old = t.old.hops in
      let new = t.new.hops in
      let waits-is = per_same width n waits_for (waiting n m l) most waiting_at in
      let ranks-is = ranks_same width n waits_for (waiting n m l) most waiting_at in
      let w = order_waiting n (root l) old new rising most low size.old.hops size.new.hops ∙ waits-is in
      let u = order_telling n (root l) old new rising most low size.old.hops size.new.hops ∙ telling_of_lem in
      let r = order_ranks n (root l) old new rising most low size.old.hops size.new.hops ∙ ranks-is in
      rw (w, u, r, due_is) refl

  -- the same of the root and direction that were judged, and of the tables that are left
  pub fresh_is :
      (k : ℕ) (rising : Bool) (left : Tables)
      → k ≡ root l
      → rising ≡ is_rise n m l
      → left ≡ filled n m l
      → started n h s k rising
      (order_of n k rising left.old.hops left.new.hops)
      (due_table n left.old.fours left.new.fours)
      ≡ fresh n h s m l
  fresh_is k rising left at direction is = rw (at, direction, is) made_is
