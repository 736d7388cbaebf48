-- An accepted plan depends on the set of changes and not on their order (02, No. 2). l and k are lists with the same
-- changes.
--     same_plan        where both are accepted, the records are the same, and so are the tables
--     same_accepted    where l is accepted, so is k if it is as long: the same changes in another order
--     either_order     two reports, each of whole entries, give the same plan whichever comes first
-- The number of a refusal is not among this: it is that of the first faulty change.
use Rattle.std.specs.Prelude.{ℕ, ◌%◌, ◌≤◌, ◌<◌, ◌≡◌, true, ◌&&◌, ◌≢◌, ltb, eqb, length}
use Rattle.std.proofs.Math.Path.{refl, ap}
use Rattle.std.proofs.Common.{sym, ap₂, ◌∙◌, ⊎_elim, inl, inr, arith, length-append}
use Rattle.std.proofs.Math.Bool.{not}
use Rattle.std.proofs.Common.{List, ◌++◌}
use Rattle.area.specs.Limits.{width, unused}
use Rattle.area.specs.Tests.{pick}
use Rattle.area.specs.Tables.{cell, per_router}
use Rattle.area.proofs.TableLaws.{is_tabulate, length_tabulate, cell_tabulate}
use Rattle.area.proofs.PerRouterLaws.{per_same}
use Rattle.sets.proofs.SetLaws.{set_of_same}
use Rattle.sets.specs.Four.{four}
use Rattle.topology.specs.Topology.{topology}
use Rattle.topology.specs.NextHops.{next_hops}
use Rattle.order.proofs.OrderLaws.{telling_same, ranks_same}
use Rattle.entries.specs.Entries.{entry_count}
use Rattle.entries.proofs.EntryLaws.{entry_count_same}
use Rattle.changes.specs.Root.{is_common, root}
use Rattle.changes.specs.SameChanges.{SameChanges, Once}
use Rattle.changes.specs.Sound.{Sound}
use Rattle.changes.proofs.RootLaws.{common_root}
use Rattle.changes.proofs.SameLaws.{joined_same, common_same, root_same, given_same, sound_same}
use Rattle.plan.specs.NewMetrics.{new_cell, new_metrics}
use Rattle.plan.specs.Direction.{are_at_most, is_same, is_rise, is_fall}
use Rattle.plan.specs.Waiting.{new_hops, old_fours, new_fours, waiting, telling, due}
use Rattle.plan.specs.Plan.{Tables, are_tables, plan_refusal, fresh, filled, record_of, tables_of}
use Rattle.plan.proofs.DirectionLaws.{same_both}
use Rattle.plan.specs.Planned.{Plan}
use Rattle.plan.proofs.PlanLaws.{plan_of, of_plan, planned_true, planned_is}
use Rattle.plan.proofs.PlanLaws.{record_planned, tables_planned}

sound_once : (n : ℕ) (l : List ℕ) → Sound n l → Once l
sound_once n l sound e b = (sound e b).new

-- ---- the new tables, and which way they go
module _ (n : ℕ) (m l k : List ℕ) (s : SameChanges l k) (once_l : Once l) (once_k : Once k) where
  same_cell : (i j : ℕ) → new_cell n m l i j ≡ new_cell n m k i j
  unfolding new_cell
  same_cell i j =
      ap (λ (x : ℕ). pick (ltb i n && (ltb j n && not (eqb i j))) x unused)
      (given_same l k i j (cell width m i j) s once_l once_k)

  same_metrics : new_metrics n m l ≡ new_metrics n m k
  unfolding new_metrics
  same_metrics =
      is_tabulate width (new_cell n m k) (new_metrics n m l) (omega arith) (length_tabulate width (new_cell n m l))
      (λ i j a b. cell_tabulate width (new_cell n m l) i j a b ∙ same_cell i j)

  same_rise : is_rise n m l ≡ is_rise n m k
  unfolding is_rise
  same_rise = ap (are_at_most n m) same_metrics

  same_fall : is_fall n m l ≡ is_fall n m k
  unfolding is_fall
  same_fall = ap (λ (o : List ℕ). are_at_most n o m) same_metrics

  same_effect : is_same n m l ≡ is_same n m k
  same_effect = same_both n m l ∙ ap₂ ◌&&◌ same_rise same_fall ∙ sym (same_both n m k)

  same_filled : filled n m l ≡ filled n m k
  unfolding filled
  same_filled = rw same_metrics refl

  same_hops : (i j : ℕ) → new_hops n m l i j ≡ new_hops n m k i j
  unfolding new_hops
  same_hops i j = ap (λ (t : List ℕ). next_hops width n (topology n t) i j) same_metrics

  same_fours : (i j : ℕ) → new_fours n m l i j ≡ new_fours n m k i j
  unfolding new_fours
  same_fours i j = ap (four width) (same_hops i j)

  -- ---- the record, field by field
  module _ (most : n ≤ width) (same-root : root l ≡ root k) where
    same_waiting : (r : ℕ) → waiting n m l r ≡ waiting n m k r
    unfolding waiting
    same_waiting r = rw (same-root, same_rise, same_hops r (root k)) refl

    same_due : (r : ℕ) → due n m l r ≡ due n m k r
    unfolding due
    same_due r =
        set_of_same n
        (λ d. not (eqb (old_fours n m r d) (new_fours n m l r d)))
        (λ d. not (eqb (old_fours n m r d) (new_fours n m k r d)))
        (λ d h. ap (λ (x : ℕ). not (eqb (old_fours n m r d) x)) (same_fours r d))

    same_telling : per_router width n (telling n m l) ≡ per_router width n (telling n m k)
    unfolding telling
    same_telling = telling_same width n (waiting n m l) (waiting n m k) most (λ r h. same_waiting r)

    same_fresh : (hold step : ℕ) → fresh n hold step m l ≡ fresh n hold step m k
    unfolding fresh
    same_fresh hold step =
        let waits = per_same width n (waiting n m l) (waiting n m k) most (λ r h. same_waiting r) in
        let ranks = ranks_same width n (waiting n m l) (waiting n m k) most (λ r h. same_waiting r) in
        let dues = per_same width n (due n m l) (due n m k) most (λ r h. same_due r) in
        rw (same-root, same_rise, waits, same_telling, ranks, dues) refl

module _ (n s : ℕ) (m l k : List ℕ) (t : Tables) (same : SameChanges l k) where
  pub same_plan :
      (h : ℕ)
      → plan_refusal n s m l (are_tables m t) ≡ 0
      → plan_refusal n s m k (are_tables m t) ≡ 0
      → (record_of n h s m l t ≡ record_of n h s m k t) × (tables_of n s m l t ≡ tables_of n s m k t)
  same_plan h a b =
      let p = plan_of n s m l t a in
      let q = plan_of n s m k t b in
      let x = planned_true n s m l t a in
      let y = planned_true n s m k t b in
      let once_l = sound_once n l p.sound in
      let once_k = sound_once n k q.sound in
      let roots = root_same l k same p.some q.some p.common in
      let records = same_fresh n m l k same once_l once_k p.ready.most roots h s in (
        record_planned n h s m l t x ∙ records ∙ sym (record_planned n h s m k t y),
        tables_planned n s m l t x ∙ same_filled n m l k same once_l once_k ∙ sym (tables_planned n s m k t y),
      )

  -- ---- whether a list is accepted
  module _ (long : length k ≡ length l) (a : plan_refusal n s m l (are_tables m t) ≡ 0) where
    p : Plan n m l
    p = plan_of n s m l t a

    many : entry_count k ≡ entry_count l
    many = entry_count_same k l long

    some : 0 < entry_count k
    some = omega (arith, many, p.some)

    once_l : Once l
    once_l = sound_once n l p.sound

    sound : Sound n k
    sound = sound_same l k same many once_l n p.sound

    once_k : Once k
    once_k = sound_once n k sound

    common : is_common k (root k) ≡ true
    common = common_root k some (root l) (sym (common_same l k same (root l)) ∙ p.common)

    given : (are_tables m t ≡ true) × (s ≢ 0) × Plan n m l
    given = (planned_is n s m l t).0 (planned_true n s m l t a)

    pub same_accepted : plan_refusal n s m k (are_tables m t) ≡ 0
    same_accepted = of_plan n s m k t given.0 given.1 (record {
      ready = p.ready;
      whole = ap (λ (x : ℕ). x % 5) long ∙ p.whole;
      most = omega (arith, many, p.most);
      some = some;
      sound = sound;
      effect = sym (same_effect n m l k same once_l once_k) ∙ p.effect;
      way = ⊎_elim
          (λ r. inl (sym (same_rise n m l k same once_l once_k) ∙ r))
          (λ f. inr (sym (same_fall n m l k same once_l once_k) ∙ f))
          p.way;
      common = common;
    })

-- ---- two reports in either order
pub either_order :
    (n h s : ℕ) (m l k : List ℕ) (t : Tables)
    → length l % 5 ≡ 0
    → length k % 5 ≡ 0
    → plan_refusal n s m (l ++ k) (are_tables m t) ≡ 0
    → (plan_refusal n s m (k ++ l) (are_tables m t) ≡ 0)
    × (record_of n h s m (l ++ k) t ≡ record_of n h s m (k ++ l) t)
    × (tables_of n s m (l ++ k) t ≡ tables_of n s m (k ++ l) t)
either_order n h s m l k t a b accepted =
    let same = joined_same l k a b in
    let long : length (k ++ l) ≡ length (l ++ k) = omega (arith, length-append l k, length-append k l) in
    let back = same_accepted n s m (l ++ k) (k ++ l) t same long accepted in
    let plan = same_plan n s m (l ++ k) (k ++ l) t same h accepted back in
    (back, plan.0, plan.1)
