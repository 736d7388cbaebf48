-- A record whose routers can all be brought to the end: waiting stays inside the area and never goes round in a circle,
-- and who is waited for tells. Its ranks say so, since a router ranks above those that it waits for.
--     Ordered          such a record
--     sound            every record that comes after it by calls is sound, so no call on it is refused as bad_record
--     fresh_ordered    the fresh record of a plan is one
use Rattle.std.specs.Prelude.{ℕ, ◌≤◌, ◌<◌, ◌≡◌, true, List, leb, get_or}
use Rattle.std.proofs.Common.{sym, ap, ◌∙◌, arith, le-leb}
use Rattle.area.specs.Limits.{width}
use Rattle.area.proofs.TestLaws.{all_true}
use Rattle.sets.specs.Sets.{bit}
use Rattle.plan.specs.declared.Record.{Record}
use Rattle.plan.specs.Waiting.{waiting}
use Rattle.plan.proofs.WaitingLaws.{waits_inside, waiting_less, tells_waits, due_inside}
use Rattle.plan.specs.Plan.{fresh}
use Rattle.plan.specs.Planned.{Plan}
use Rattle.plan.proofs.FreshLaws.{fresh_count, fresh_rank, fresh_waiting, fresh_telling, fresh_due}
use Rattle.machine.specs.Machine.{done, waiting_of, telling_of, due_of, rank_of, is_record}
use Rattle.machine.proofs.StepLaws.{sound_states}
use Rattle.machine.proofs.HeldLaws.{Held}

pub record Ordered (first : Record) : Type 0 where
  -- n is a number of routers
  pub some : 1 ≤ first.n
  pub most : first.n ≤ width
  -- whom x waits for is a router, ranks below x, and tells x
  pub inside : (x w : ℕ) → x < first.n → bit (waiting_of first x) w ≡ true → w < first.n
  pub below : (x w : ℕ) → x < first.n → bit (waiting_of first x) w ≡ true → rank_of first w < rank_of first x
  pub told : (x w : ℕ) → x < first.n → bit (waiting_of first x) w ≡ true → bit (telling_of first w) x ≡ true
  -- whom x tells waits for x
  pub waits : (x t : ℕ) → x < first.n → bit (telling_of first x) t ≡ true → bit (waiting_of first t) x ≡ true
  -- and what is due is a router
  pub due : (x d : ℕ) → x < first.n → bit (due_of first x) d ≡ true → d < first.n

pub sound : {first now : Record} → Ordered first → Held first now → is_record now ≡ true
sound {now = now} o k =
    sound_states now.n now.states (λ q. omega (arith, o.some, k.count)) (omega (arith, o.most, k.count))
    ∙ all_true width (λ i. leb (get_or now.states i 0) done)
    (λ i h. le-leb (get_or now.states i 0) done (k.known i))

-- ---- the fresh record
module _ (n hold step : ℕ) (m l : List ℕ) (p : Plan n m l) where
  abbrev first : Record
  first = fresh n hold step m l

  most : n ≤ width
  most = p.ready.most

  is_router : {x : ℕ} → x < first.n → x < n
  is_router h = omega (arith, fresh_count n hold step m l)

  -- what the record's tables say is what the plan says
  waits_for_lem : (x w : ℕ) → x < n → bit (waiting_of first x) w ≡ true → bit (waiting n m l x) w ≡ true
  waits_for_lem x w h e = ap (λ (s : ℕ). bit s w) (sym (fresh_waiting n hold step m l most x h)) ∙ e

  pub fresh_ordered : Ordered (fresh n hold step m l)
  fresh_ordered = record {
    some = omega (arith, p.ready.some, fresh_count n hold step m l);
    most = omega (arith, most, fresh_count n hold step m l);
    inside = λ x w h e. omega (arith, waited x w (is_router h) e, fresh_count n hold step m l);
    below = λ x w h. ranks_below x w (is_router h);
    told = λ x w h. told_by x w (is_router h);
    waits = λ x t h. waits_then x t (is_router h);
    due = λ x d h. due_router x d (is_router h);
  }
    where
      waited : (x w : ℕ) → x < n → bit (waiting_of first x) w ≡ true → w < n
      waited x w h e = (waits_inside n m l most x w (waits_for_lem x w h e)).1

      ranks_below : (x w : ℕ) → x < n → bit (waiting_of first x) w ≡ true → rank_of first w < rank_of first x
      ranks_below x w h e =
          let less = waiting_less n m l most x w (waits_for_lem x w h e) in
          omega (arith, less, fresh_rank n hold step m l most x h, fresh_rank n hold step m l most w (waited x w h e))

      told_by : (x w : ℕ) → x < n → bit (waiting_of first x) w ≡ true → bit (telling_of first w) x ≡ true
      told_by x w h e =
          ap (λ (s : ℕ). bit s x) (fresh_telling n hold step m l most w (waited x w h e))
          ∙ (tells_waits n m l most w x).1 (waits_for_lem x w h e)

      waits_then : (x t : ℕ) → x < n → bit (telling_of first x) t ≡ true → bit (waiting_of first t) x ≡ true
      waits_then x t h e =
          let tells = ap (λ (s : ℕ). bit s t) (sym (fresh_telling n hold step m l most x h)) ∙ e in
          let waits = (tells_waits n m l most x t).0 tells in
          ap (λ (s : ℕ). bit s x) (fresh_waiting n hold step m l most t (waits_inside n m l most t x waits).0) ∙ waits

      due_router : (x d : ℕ) → x < n → bit (due_of first x) d ≡ true → d < first.n
      due_router x d h e =
          let due-there = ap (λ (s : ℕ). bit s d) (sym (fresh_due n hold step m l most x h)) ∙ e in
          omega (arith, fresh_count n hold step m l, due_inside n m l x d due-there)
