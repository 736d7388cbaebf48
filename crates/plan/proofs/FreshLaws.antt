-- What the layer above knows of an input that is planned, and of the record that it starts from.
--     plan_root, plan_fall, plan_not_both      the root is a router; a plan is a rise or a fall, and not both
--     plan_elsewhere, plan_rises, plan_falls   usable metrics differ only at links of the root, and all the same way
--     plan_differs, plan_larger, plan_smaller  the same of one that differs
--     fresh_count, fresh_size, fresh_states_size, fresh_waiting_size, fresh_rank, fresh_waiting, fresh_telling,
--     fresh_due, fresh_state, fresh_written, fresh_hold, fresh_step, fresh_clock, fresh_learned, fresh_beyond
--                                              the fresh record's sizes and entries
use Rattle.std.specs.Prelude.{ℕ, ◌≤◌, ◌<◌, ◌≡◌, true, false, ◌≢◌, ◌⊎◌, List, length, get_or}
use Rattle.std.proofs.Math.Path.{refl}
use Rattle.std.proofs.Common.{sym, ◌∙◌, inl, inr, ⊎_elim, arith}
use Rattle.std.proofs.lemmas.Bool.{false≢true}
use Rattle.std.proofs.Math.Decide.{ℕ_discrete}
use Rattle.std.proofs.Math.ListN.{length-replicate}
use Rattle.area.specs.Limits.{width}
use Rattle.area.proofs.TestLaws.{look, and_true}
use Rattle.area.proofs.PerRouterLaws.{per_length, per_at, per_beyond, zeros_at}
use Rattle.topology.specs.Topology.{topology}
use Rattle.ranks.specs.Rank.{rank}
use Rattle.changes.specs.Root.{root}
use Rattle.changes.proofs.RootLaws.{root_in}
use Rattle.plan.specs.NewMetrics.{new_metrics}
use Rattle.plan.specs.Direction.{is_rise, is_fall}
use Rattle.plan.specs.Waiting.{waiting, telling, due}
use Rattle.plan.specs.Plan.{fresh}
use Rattle.plan.proofs.MetricLaws.{topology_elsewhere}
use Rattle.plan.proofs.DirectionLaws.{rise_at, fall_at, same_both}
use Rattle.plan.specs.Planned.{Plan}

module _ (n : ℕ) (m l : List ℕ) (p : Plan n m l) where
  pub plan_root : root l < n
  plan_root = let first = p.sound 0 p.some in root_in n l first.from_in first.to_in

  pub plan_fall : is_rise n m l ≡ false → is_fall n m l ≡ true
  plan_fall f = ⊎_elim (λ t. absurd (false≢true (sym f ∙ t))) (λ t. t) p.way

  -- some usable metric differs
  pub plan_not_both : is_rise n m l ≡ true → is_fall n m l ≡ false
  plan_not_both r = ⊎_elim (λ t. absurd (both t)) (λ f. f) (look (is_fall n m l))
    where
      both : is_fall n m l ≡ true → ⊥
      both t = false≢true (sym p.effect ∙ same_both n m l ∙ and_true (is_rise n m l) (is_fall n m l) r t)

  -- ---- the topologies
  pub plan_elsewhere :
      (i j : ℕ)
      → i ≢ root l
      → j ≢ root l
      → topology n (new_metrics n m l) i j ≡ topology n m i j
  plan_elsewhere = topology_elsewhere n m l p.ready.most (root l) p.common

  pub plan_rises : is_rise n m l ≡ true → (i j : ℕ) → topology n m i j ≤ topology n (new_metrics n m l) i j
  plan_rises = rise_at n m l

  pub plan_falls : is_rise n m l ≡ false → (i j : ℕ) → topology n (new_metrics n m l) i j ≤ topology n m i j
  plan_falls r = fall_at n m l (plan_fall r)

  -- ---- the usable metrics that differ
  module _ (i j : ℕ) (d : topology n (new_metrics n m l) i j ≢ topology n m i j) where
    pub plan_differs : (i ≡ root l) ⊎ (j ≡ root l)
    plan_differs = by_ends (ℕ_discrete i (root l)) (ℕ_discrete j (root l))
      where
        by_ends : Dec (i ≡ root l) → Dec (j ≡ root l) → (i ≡ root l) ⊎ (j ≡ root l)
        by_ends (yes e) b = inl e
        by_ends (no x) (yes e) = inr e
        by_ends (no x) (no y) = absurd (d (plan_elsewhere i j x y))

    pub plan_larger : is_rise n m l ≡ true → topology n m i j < topology n (new_metrics n m l) i j
    plan_larger r = omega (arith, plan_rises r i j)

    pub plan_smaller : is_rise n m l ≡ false → topology n (new_metrics n m l) i j < topology n m i j
    plan_smaller r = omega (arith, plan_falls r i j)

-- ---- the fresh record, router by router
module _ (n h s : ℕ) (m l : List ℕ) where
  module _ (most : n ≤ width) (r : ℕ) (a : r < n) where
    pub fresh_rank : get_or (fresh n h s m l).ranks r 0 ≡ rank n (waiting n m l) r
    unfolding fresh
    fresh_rank = per_at width n (rank n (waiting n m l)) r a most

    pub fresh_waiting : get_or (fresh n h s m l).waiting r 0 ≡ waiting n m l r
    unfolding fresh
    fresh_waiting = per_at width n (waiting n m l) r a most

    pub fresh_telling : get_or (fresh n h s m l).telling r 0 ≡ telling n m l r
    unfolding fresh
    fresh_telling = per_at width n (telling n m l) r a most

    pub fresh_due : get_or (fresh n h s m l).due r 0 ≡ due n m l r
    unfolding fresh
    fresh_due = per_at width n (due n m l) r a most

  pub fresh_count : (fresh n h s m l).n ≡ n
  unfolding fresh
  fresh_count = refl

  -- there is a written set for each router that an area can have
  pub fresh_size : length (fresh n h s m l).written ≡ width
  unfolding fresh
  fresh_size = length-replicate {A = ℕ} width 0

  -- and a state and a waiting set
  pub fresh_states_size : length (fresh n h s m l).states ≡ width
  unfolding fresh
  fresh_states_size = length-replicate {A = ℕ} width 0

  pub fresh_waiting_size : length (fresh n h s m l).waiting ≡ width
  unfolding fresh
  fresh_waiting_size = per_length width n (waiting n m l)

  pub fresh_state : (r : ℕ) → get_or (fresh n h s m l).states r 0 ≡ 0
  unfolding fresh
  fresh_state = zeros_at width

  pub fresh_written : (r : ℕ) → get_or (fresh n h s m l).written r 0 ≡ 0
  unfolding fresh
  fresh_written = zeros_at width

  -- the times, the clock and the learn times
  pub fresh_hold : (fresh n h s m l).hold_time ≡ h
  unfolding fresh
  fresh_hold = refl

  pub fresh_step : (fresh n h s m l).step_time ≡ s
  unfolding fresh
  fresh_step = refl

  pub fresh_clock : (fresh n h s m l).clock ≡ 0
  unfolding fresh
  fresh_clock = refl

  pub fresh_learned : (r : ℕ) → get_or (fresh n h s m l).learn_times r 0 ≡ 0
  unfolding fresh
  fresh_learned = zeros_at width

  -- from n on there is nothing
  pub fresh_beyond :
      (r : ℕ) → r < width → n ≤ r
      → (get_or (fresh n h s m l).ranks r 0 ≡ 0)
      × (get_or (fresh n h s m l).waiting r 0 ≡ 0)
      × (get_or (fresh n h s m l).telling r 0 ≡ 0)
      × (get_or (fresh n h s m l).due r 0 ≡ 0)
  unfolding fresh
  fresh_beyond r b h = (
    per_beyond width n (rank n (waiting n m l)) r h b,
    per_beyond width n (waiting n m l) r h b,
    per_beyond width n (telling n m l) r h b,
    per_beyond width n (due n m l) r h b,
  )
