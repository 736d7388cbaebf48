-- Demand 3 holds of what the code hands back: `handed_back_free`, at the end of this file. From the code to it:
--     `plan`, accepted         its line `answer` gives the first premise: the number of `Ok` is 0
--     `plan`                   its lines `plan` and `tables` are the next two: `first` is the record in the `Ok` that
--                              it hands back, `left` the tables as it leaves them
--     every call after that    its line `outcome` or `last` makes a further step of `After`
--     the last record          its clock is 0 where no tick was answered ok; else what is supposed of it is `Timely`
-- So a reader puts the contracts of the calls in, in the order of the calls, and has demand 3 of the record at hand.
--
-- The argument: calls of the code make a list of calls (`after_run`), of which `last_free` speaks. The tables hold the
-- sets of four and the distances of the two topologies (FilledLaws.antt of crate plan), and a written set holds what
-- was written (`run_bit` of crate machine). So both speak of the same pointers (`same_pointers`) and the same routers
-- that reach d (`same_reach`).
use Rattle.std.specs.Prelude.{ℕ, ◌≤◌, ◌<◌, ◌≡◌, refl, Bool, ◌≢◌, List, [], ◌∷◌, ◌++◌}
use Rattle.std.proofs.Common.{sym, ap, ◌∙◌, arith}
use Rattle.area.specs.Limits.{width, unreached}
use Rattle.area.specs.Tests.{pick}
use Rattle.area.specs.Tables.{cell}
use Rattle.sets.specs.Sets.{bit}
use Rattle.plan.specs.declared.Record.{Record}
use Rattle.plan.specs.NewMetrics.{new_metrics}
use Rattle.plan.specs.Plan.{Tables, are_tables, plan_refusal, fresh, record_of, tables_of}
use Rattle.plan.proofs.PlanLaws.{plan_of, planned_true, record_planned, tables_planned}
use Rattle.plan.proofs.FilledLaws.{filled_old_fours, filled_new_fours, filled_old_distance, filled_new_distance}
use Rattle.convergence.specs.Pointers.{Pointers, Along, Prolonged}
use Rattle.machine.specs.Answers.{Outcome}
use Rattle.machine.specs.Run.{Call, call, run, calls_of}
use Rattle.machine.proofs.RunLaws.{run_bit, fresh_start}
use Rattle.machine.proofs.CallLaws.{run_empty, run_one, run_joined}
use Rattle.loop_free.specs.LoopFree.{points_to, Reaches, OnTime}
use Rattle.loop_free.proofs.LoopFreeLaws.{last_free}
use Rattle.loop_free.specs.HandedBack.{After, none, stepped, ran, points_by, LoopFreeBy}

-- ---- calls of the code make a list of calls
pub after_run : {first last : Record} → After first last → (calls : List Call) × (last ≡ run first calls)
after_run {first} none = ([], sym (run_empty first))
after_run {first} (stepped {now} kind a b after e) =
    let before = after_run after in
    let one = call kind a b ∷ [] in
    let joined =
    ap (λ (o : Outcome). o.next) e
    ∙ sym (run_one now kind a b)
    ∙ ap (λ (r : Record). run r one) before.1
    ∙ sym (run_joined first before.0 one) in
    (before.0 ++ one, joined)
after_run {first} (ran bytes after e) =
    let before = after_run after in
    let joined =
    e
    ∙ ap (λ (r : Record). run r (calls_of bytes)) before.1
    ∙ sym (run_joined first before.0 (calls_of bytes)) in
    (before.0 ++ calls_of bytes, joined)

-- ---- walks along pointers that are the same
module _ {p q : Pointers} (same : (r : ℕ) → p r ≡ q r) where
  same_along : (x : ℕ) (walk : List ℕ) → Along p x walk → Along q x walk
  same_along x [] a = tt
  same_along x (y ∷ walk) a = (ap (λ (s : ℕ). bit s y) (sym (same x)) ∙ a.0, same_along y walk a.1)

  same_prolonged : {most d x : ℕ} {walk : List ℕ} → Prolonged p most d x walk → Prolonged q most d x walk
  same_prolonged {x} {walk} w = record {
    rest = w.rest;
    along = same_along x (walk ++ w.rest) w.along;
    ends = w.ends;
    short = w.short;
  }

-- ---- the tables and the last record
same_pick : {s t : Bool} {a b x y : ℕ} → s ≡ t → a ≡ b → x ≡ y → pick s a x ≡ pick t b y
same_pick p q r = rw (p, q, r) refl

module _ (n h s : ℕ) (m l : List ℕ) (lent : Tables) (z : plan_refusal n s m l (are_tables m lent) ≡ 0) where
  most : n ≤ width
  most = (plan_of n s m l lent z).ready.most

  -- what the tables and the written sets say is what sets of four and answers say, of any router r
  pub same_pointers : (calls : List Call) (d r : ℕ)
      → d < n
      → points_by (tables_of n s m l lent) (run (record_of n h s m l lent) calls) d r
      ≡ points_to n m l (record_of n h s m l lent) calls d r
  same_pointers calls d r in_area_lem =
      let planned = planned_true n s m l lent z in
      rw (record_planned n h s m l lent planned, tables_planned n s m l lent planned)
      (same_pick (run_bit (fresh n h s m l) calls (fresh_start n h s m l) r d (omega (arith, most)))
      (filled_new_fours n m l most r d in_area_lem) (filled_old_fours n m l most r d in_area_lem))

  -- and what the distance tables say of reaching d is what distances say
  pub same_reach : (x d : ℕ)
      → x < n
      → d < n
      → (cell width (tables_of n s m l lent).old.distances x d ≢ unreached → Reaches n m x d)
      × (cell width (tables_of n s m l lent).new.distances x d ≢ unreached → Reaches n (new_metrics n m l) x d)
  same_reach x d a b =
      rw (tables_planned n s m l lent (planned_true n s m l lent z))
      (rw (filled_old_distance n m l most x d a b, filled_new_distance n m l most x d a b)
      ((λ f. f), (λ f. f)))

  free_by :
      (calls : List Call)
      → OnTime (run (record_of n h s m l lent) calls)
      → LoopFreeBy n (tables_of n s m l lent) (run (record_of n h s m l lent) calls)
  free_by calls on-time =
      let free = last_free n h s m l lent z calls on-time in
      record {
        no_router_twice = λ d x walk d-in a.
            free.no_router_twice d x walk d-in (same_along (λ r. same_pointers calls d r d-in) x walk a);
        arrives = λ d x walk d-in inside old new a.
            let reach = same_reach x d inside d-in in
            same_prolonged (λ r. sym (same_pointers calls d r d-in))
            (free.arrives d x walk d-in (reach.0 old) (reach.1 new)
            (same_along (λ r. same_pointers calls d r d-in) x walk a));
      }

-- Demand 3: for every input that Plan accepts, the record that it hands back, the tables that it leaves, and every
-- record that comes after the first one, if its clock stands at 0 or no router is late in it.
pub handed_back_free :
    (n h s : ℕ) (metrics changes : List ℕ) (lent : Tables)
    → plan_refusal n s metrics changes (are_tables metrics lent) ≡ 0
    → (first last : Record) (left : Tables)
    → first ≡ record_of n h s metrics changes lent
    → left ≡ tables_of n s metrics changes lent
    → After first last
    → OnTime last
    → LoopFreeBy n left last
handed_back_free n h s m l lent z first last left e f after on-time =
    let by = after_run after in
    let calls = by.0 in
    let ran = by.1 ∙ ap (λ (r : Record). run r calls) e in
    rw (f, ran) (free_by n h s m l lent z calls (rw ran at on-time))
