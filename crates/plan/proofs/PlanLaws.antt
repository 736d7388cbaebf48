-- Laws of what Plan answers, hands back and fills in: those by which the code is proved, and those that callers use.
--     change_count_lem, change_tables, change_metrics  the refusals of the change, each where it is given: of n, tables
--                                                      and metrics,
--     change_cut, change_many, change_none             of the list's length,
--     change_faulty, change_same, change_mixed, change_apart       of its changes
--     plan_count, plan_untimed, plan_timed     those of Plan: the step time's comes after that of n
--     planned_is           an input is planned exactly where none of 01's conditions for a refusal holds
--     record_planned, record_refused, refused_count, tables_planned, tables_refused    what is handed back and left
--     filled_size      the tables that are filled have the right size
--     plan_parts       the ladder in the parts by which src/judging.rt goes through it
--     at_area, at_length, at_change, at_direction, at_root, at_end     the answer, by where that ends
--     part_count, part_untimed, part_tables, part_metrics, part_passed, part_ready, judged_area    its first part
-- The tests of the ladder are taken one after another: a refusal is given where its test is the first to fail, and so
-- an input that is given none has passed all of them.
use Rattle.std.specs.Prelude.{ℕ, suc, ◌*◌, ◌%◌, ◌≤◌, ◌<◌, ◌≡◌, Bool, true, not, ◌&&◌, ◌||◌, ◌≢◌, ◌↔◌, ◌⊎◌, List}
use Rattle.std.specs.Prelude.{length, ltb, eqb}
use Rattle.std.proofs.Math.Path.{refl}
use Rattle.std.proofs.Common.{sym, ap, ◌∙◌, inl, inr, ⊎_elim, arith}
use Rattle.std.proofs.Math.Bool.{false}
use Rattle.std.proofs.lemmas.Grind.{common_steps}
use Rattle.std.proofs.Math.Decide.{dec_lt, ℕ_discrete}
use borrow.Author.Tests.{eqb-true, lt-ltb, le-ltb, eq-eqb, ne_eqb}
use Rattle.area.specs.Limits.{width, most_changes}
use Rattle.area.specs.declared.refusal.Refusal.{Refusal}
use Rattle.area.specs.Refusals.{refusal_number}
use Rattle.area.specs.Refusals.{router_count, table_size, bad_metric, incomplete, too_many}
use Rattle.area.specs.Refusals.{no_change, same_metric, mixed, no_common_router, no_step_time}
use Rattle.area.specs.Tests.{pick, or_then, first}
use Rattle.area.proofs.RefusalLaws.{refusal_positive}
use Rattle.area.proofs.TableLaws.{length_tabulate}
use Rattle.area.proofs.TestLaws.{look, both_true, and_false, or_cases, or_left, or_right, then_some, then_none}
use Rattle.area.specs.Sizes.{is_router_count, is_table}
use Rattle.area.proofs.SizeLaws.{router_count_true, router_count_low, router_count_high, table_true, table_size_lem}
use Rattle.entries.specs.Entries.{entry_count, listed_refusal}
use Rattle.paths.specs.Paths.{are_paths, are_metrics}
use Rattle.paths.specs.Ready.{Ready}
use Rattle.paths.proofs.PathsLaws.{area_ready, area_metrics, sized_paths_of, filled_sized}
use Rattle.changes.specs.Root.{is_common, root}
use Rattle.changes.proofs.ChangeLaws.{sound_of, of_sound}
use Rattle.plan.specs.NewMetrics.{new_cell, new_metrics}
use Rattle.plan.specs.Direction.{is_same, is_rise, is_fall}
use Rattle.plan.specs.Plan.{Tables, are_tables, change_refusal, plan_refusal, is_planned}
use Rattle.plan.specs.Plan.{fresh, blank, filled, record_of, tables_of}
use Rattle.plan.specs.Planned.{Listed, Sized, Plan}
use Rattle.plan.specs.Parts.{area_refusal, length_refusal, direction_refusal}

-- ---- the refusals of the input
module _ (n : ℕ) (m l : List ℕ) (sized : Bool) where
  pub change_count_lem : is_router_count n ≡ false → change_refusal n m l sized ≡ router_count
  unfolding change_refusal
  change_count_lem a = rw a refl

  module _ (a : is_router_count n ≡ true) where
    pub change_tables : sized ≡ false → change_refusal n m l sized ≡ table_size
    unfolding change_refusal
    change_tables b = rw (a, b) refl

    pub change_metrics : sized ≡ true → are_metrics n m ≡ false → change_refusal n m l sized ≡ bad_metric
    unfolding change_refusal
    change_metrics b c = rw (a, b, c) refl

-- the area is one that Paths accepts and the tables have their sizes: the refusals of the list
module _ (n : ℕ) (m l : List ℕ) (ready : Ready n m) where
  pub change_cut : length l % 5 ≢ 0 → change_refusal n m l true ≡ incomplete
  unfolding change_refusal
  change_cut a = rw (router_count_true n ready.some ready.most, ready.metrics, ne_eqb (length l % 5) 0 a) refl

  module _ (a : length l % 5 ≡ 0) where
    pub change_many : most_changes < entry_count l → change_refusal n m l true ≡ too_many
    unfolding change_refusal
    change_many b =
        rw (router_count_true n ready.some ready.most, ready.metrics, eq-eqb (length l % 5) 0 a)
        (rw (lt-ltb most_changes (entry_count l) b) refl)

    module _ (b : entry_count l ≤ most_changes) where
      pub change_none : entry_count l ≡ 0 → change_refusal n m l true ≡ no_change
      unfolding change_refusal
      change_none c =
          rw (router_count_true n ready.some ready.most, ready.metrics, eq-eqb (length l % 5) 0 a)
          (rw (le-ltb most_changes (entry_count l) b, eq-eqb (entry_count l) 0 c) refl)

module _ (n : ℕ) (m l : List ℕ) (listed : Listed n m l) where
  -- the refusals of the changes together
  abbrev together : ℕ
  together =
      pick (is_same n m l) same_metric
      (pick (not (is_rise n m l || is_fall n m l)) mixed (pick (not (is_common l (root l))) no_common_router 0))

  change_entries : change_refusal n m l true ≡ or_then (first (entry_count l) (listed_refusal n l)) together
  unfolding change_refusal
  change_entries =
      rw (router_count_true n listed.ready.some listed.ready.most, listed.ready.metrics)
      (rw (eq-eqb (length l % 5) 0 listed.whole, le-ltb most_changes (entry_count l) listed.most)
      (rw (ne_eqb (entry_count l) 0 listed.some) refl))

  pub change_faulty :
      first (entry_count l) (listed_refusal n l) ≢ 0
      → change_refusal n m l true ≡ first (entry_count l) (listed_refusal n l)
  change_faulty f = change_entries ∙ then_some (first (entry_count l) (listed_refusal n l)) together f

  module _ (z : first (entry_count l) (listed_refusal n l) ≡ 0) where
    change_together : change_refusal n m l true ≡ together
    change_together = change_entries ∙ then_none (first (entry_count l) (listed_refusal n l)) together z

    pub change_same : is_same n m l ≡ true → change_refusal n m l true ≡ same_metric
    change_same a = change_together ∙ rw a refl

    module _ (effect : is_same n m l ≡ false) where
      pub change_mixed : (is_rise n m l || is_fall n m l) ≡ false → change_refusal n m l true ≡ mixed
      change_mixed a = change_together ∙ rw (effect, a) refl

      module _ (way : (is_rise n m l || is_fall n m l) ≡ true) where
        pub change_apart : is_common l (root l) ≡ false → change_refusal n m l true ≡ no_common_router
        change_apart a = change_together ∙ rw (effect, way, a) refl

        pub change_accepted : is_common l (root l) ≡ true → change_refusal n m l true ≡ 0
        change_accepted a = change_together ∙ rw (effect, way, a) refl

-- ---- the sizes of the tables
pub sized_of : (m : List ℕ) (t : Tables) → are_tables m t ≡ true → Sized m t
unfolding are_tables
sized_of m t e =
    let p = both_true (is_table m) _ e in
    let q = both_true (is_table t.metrics) _ p.1 in
    let r = both_true (are_paths t.old) (are_paths t.new) q.1 in
    record {
      given = table_size_lem m p.0;
      metrics = table_size_lem t.metrics q.0;
      old = sized_paths_of t.old r.0;
      new = sized_paths_of t.new r.1;
    }

-- ---- an input that is planned: none of 01's conditions for a refusal holds
module _ (n : ℕ) (m l : List ℕ) where
  -- the tests that an input has passed which is not refused: those before the list ..
  passed :
      (sized : Bool) → change_refusal n m l sized ≡ 0
      → (is_router_count n ≡ true) × (sized ≡ true) × (are_metrics n m ≡ true)
  passed sized z = by_tests (look (is_router_count n)) (look sized) (look (are_metrics n m))
    where
      never : {A : Type 0} (k : ℕ) → change_refusal n m l sized ≡ suc k → A
      never k q = absurd (let x : ⊥ = omega arith in x)

      by_tests :
          (is_router_count n ≡ true) ⊎ (is_router_count n ≡ false)
          → (sized ≡ true) ⊎ (sized ≡ false)
          → (are_metrics n m ≡ true) ⊎ (are_metrics n m ≡ false)
          → (is_router_count n ≡ true) × (sized ≡ true) × (are_metrics n m ≡ true)
      by_tests (inr a) b c = never 2 (change_count_lem n m l sized a)
      by_tests (inl a) (inr b) c = never 7 (change_tables n m l sized a b)
      by_tests (inl a) (inl b) (inr c) = never 5 (change_metrics n m l sized a b c)
      by_tests (inl a) (inl b) (inl c) = (a, b, c)

  -- .. those of the list's length ..
  listed_of : Ready n m → change_refusal n m l true ≡ 0 → Listed n m l
  listed_of ready z =
      by_tests (ℕ_discrete (length l % 5) 0) (dec_lt most_changes (entry_count l)) (ℕ_discrete (entry_count l) 0)
    where
      never : {A : Type 0} (k : ℕ) → change_refusal n m l true ≡ suc k → A
      never k q = absurd (let x : ⊥ = omega arith in x)

      by_tests :
          Dec (length l % 5 ≡ 0)
          → Dec (most_changes < entry_count l)
          → Dec (entry_count l ≡ 0)
          → Listed n m l
      by_tests (no a) b c = never 0 (change_cut n m l ready a)
      by_tests (yes a) (yes b) c = never 8 (change_many n m l ready a b)
      by_tests (yes a) (no b) (yes c) = never 9 (change_none n m l ready a (omega arith) c)
      by_tests (yes a) (no b) (no c) = record { ready = ready; whole = a; most = omega arith; some = c }

  -- .. and those of its changes
  together_of : Listed n m l → change_refusal n m l true ≡ 0 → Plan n m l
  together_of listed z =
      by_tests (ℕ_discrete (first (entry_count l) (listed_refusal n l)) 0) (look (is_same n m l))
      (look (is_rise n m l || is_fall n m l)) (look (is_common l (root l)))
    where
      never : {A : Type 0} (k : ℕ) → k ≢ 0 → change_refusal n m l true ≡ k → A
      never k f q = absurd (f (sym q ∙ z))

      by_tests :
          Dec (first (entry_count l) (listed_refusal n l) ≡ 0)
          → (is_same n m l ≡ true) ⊎ (is_same n m l ≡ false)
          → ((is_rise n m l || is_fall n m l) ≡ true) ⊎ ((is_rise n m l || is_fall n m l) ≡ false)
          → (is_common l (root l) ≡ true) ⊎ (is_common l (root l) ≡ false)
          → Plan n m l
      by_tests (no a) d b c = never _ a (change_faulty n m l listed a)
      by_tests (yes a) (inl d) b c =
          never same_metric (λ q. let x : ⊥ = omega arith in x) (change_same n m l listed a d)
      by_tests (yes a) (inr d) (inr b) c =
          never mixed (λ q. let x : ⊥ = omega arith in x) (change_mixed n m l listed a d b)
      by_tests (yes a) (inr d) (inl b) (inr c) =
          never no_common_router (λ q. let x : ⊥ = omega arith in x) (change_apart n m l listed a d b c)
      by_tests (yes a) (inr d) (inl b) (inl c) = record {
        ready = listed.ready;
        whole = listed.whole;
        most = listed.most;
        some = let f = listed.some in omega arith;
        sound = sound_of n l a;
        effect = d;
        way = or_cases (is_rise n m l) (is_fall n m l) b;
        common = c;
      }

  module _ (t : Tables) where
    change_of : change_refusal n m l (are_tables m t) ≡ 0 → Plan n m l
    change_of z =
        let p = passed (are_tables m t) z in
        let area = area_metrics n m p.0 (table_true m (sized_of m t p.1).given) ∙ p.2 in
        let y = ap (change_refusal n m l) (sym p.1) ∙ z in
        together_of (listed_of (area_ready n m area) y) y

    of_change : are_tables m t ≡ true → Plan n m l → change_refusal n m l (are_tables m t) ≡ 0
    of_change b p =
        let some : entry_count l ≢ 0 = λ q. let s = p.some in let x : ⊥ = omega arith in x in
        let listed : Listed n m l = record { ready = p.ready; whole = p.whole; most = p.most; some = some } in
        let way = ⊎_elim (or_left (is_rise n m l) (is_fall n m l)) (or_right (is_rise n m l) (is_fall n m l)) p.way in
        ap (change_refusal n m l) b
        ∙ change_accepted n m l listed (of_sound n l p.sound) p.effect way p.common

-- ---- the step time: 36 comes after 3, and before all others
module _ (n s : ℕ) (m l : List ℕ) (sized : Bool) where
  pub plan_count : is_router_count n ≡ false → plan_refusal n s m l sized ≡ router_count
  unfolding plan_refusal
  plan_count a = rw a (change_count_lem n m l sized a)

  pub plan_untimed : is_router_count n ≡ true → s ≡ 0 → plan_refusal n s m l sized ≡ no_step_time
  unfolding plan_refusal
  plan_untimed a z = rw (a, eq-eqb s 0 z) refl

  pub plan_timed : s ≢ 0 → plan_refusal n s m l sized ≡ change_refusal n m l sized
  unfolding plan_refusal
  plan_timed f = rw (ne_eqb s 0 f) (rw (and_false (is_router_count n) false refl) refl)

  -- the step time of an input that is not refused
  pub plan_step_time : plan_refusal n s m l sized ≡ 0 → s ≢ 0
  plan_step_time z e =
      ⊎_elim (λ a. omega (arith, plan_untimed a e)) (λ a. omega (arith, plan_count a)) (look (is_router_count n))

  plan_change : plan_refusal n s m l sized ≡ 0 → change_refusal n m l sized ≡ 0
  plan_change z = sym (plan_timed (plan_step_time z)) ∙ z

module _ (n s : ℕ) (m l : List ℕ) (t : Tables) where
  pub plan_of : plan_refusal n s m l (are_tables m t) ≡ 0 → Plan n m l
  plan_of z = change_of n m l t (plan_change n s m l (are_tables m t) z)

  pub of_plan : are_tables m t ≡ true → s ≢ 0 → Plan n m l → plan_refusal n s m l (are_tables m t) ≡ 0
  of_plan b f p = plan_timed n s m l (are_tables m t) f ∙ of_change n m l t b p

  -- planned exactly where the tables have their sizes, the step time is not 0, and none of the conditions on n, metrics
  -- and changes holds
  pub planned_is : (is_planned n s m l t ≡ true) ↔ ((are_tables m t ≡ true) × (s ≢ 0) × Plan n m l)
  unfolding is_planned
  planned_is = (
    (λ e.
        let z = eqb-true (plan_refusal n s m l (are_tables m t)) 0 e in
        let sized = (passed n m l (are_tables m t) (plan_change n s m l (are_tables m t) z)).1 in
        (sized, plan_step_time n s m l (are_tables m t) z, plan_of z)),
    (λ p. eq-eqb (plan_refusal n s m l (are_tables m t)) 0 (of_plan p.0 p.1 p.2)),
  )

  -- ---- what is handed back and left
  pub planned_true : plan_refusal n s m l (are_tables m t) ≡ 0 → is_planned n s m l t ≡ true
  unfolding is_planned
  planned_true z = eq-eqb (plan_refusal n s m l (are_tables m t)) 0 z

  pub planned_false : plan_refusal n s m l (are_tables m t) ≢ 0 → is_planned n s m l t ≡ false
  unfolding is_planned
  planned_false f = ne_eqb (plan_refusal n s m l (are_tables m t)) 0 f

  pub tables_planned : is_planned n s m l t ≡ true → tables_of n s m l t ≡ filled n m l
  unfolding tables_of
  tables_planned e = rw e refl

  pub tables_refused : is_planned n s m l t ≡ false → tables_of n s m l t ≡ t
  unfolding tables_of
  tables_refused e = rw e refl

module _ (n h s : ℕ) (m l : List ℕ) (t : Tables) where
  pub record_planned : is_planned n s m l t ≡ true → record_of n h s m l t ≡ fresh n h s m l
  unfolding record_of
  record_planned e = rw e refl

  pub record_refused : is_planned n s m l t ≡ false → record_of n h s m l t ≡ blank
  unfolding record_of
  record_refused e = rw e refl

  -- the record of a refusal has no routers
  pub refused_count : plan_refusal n s m l (are_tables m t) ≢ 0 → (record_of n h s m l t).n ≡ 0
  unfolding blank
  refused_count f = rw (record_refused (planned_false n s m l t f)) refl

-- the tables that are filled have the right size
pub filled_size : (n : ℕ) (m l : List ℕ) → Sized (new_metrics n m l) (filled n m l)
unfolding filled new_metrics
filled_size n m l = record {
  given = length_tabulate width (new_cell n m l);
  metrics = length_tabulate width (new_cell n m l);
  old = filled_sized n m;
  new = filled_sized n (new_metrics n m l);
}

-- ---- the ladder in parts, as src/judging.rt goes through it
ladder :
    (count untimed sized metrics whole many none same way common : Bool) (listed : ℕ)
    → pick (count && untimed) no_step_time
    (pick (not count) router_count
    (pick (not sized) table_size
    (pick (not metrics) bad_metric
    (pick (not whole) incomplete
    (pick many too_many
    (pick none no_change
    (or_then listed
    (pick same same_metric
    (pick (not way) mixed
    (pick (not common) no_common_router
    0))))))))))
    ≡ or_then
    (pick (not count) router_count
    (pick untimed no_step_time
    (pick (not sized) table_size
    (pick (not metrics) bad_metric
    0))))
    (or_then (pick (not whole) incomplete (pick many too_many (pick none no_change 0)))
    (or_then listed (or_then (pick same same_metric (pick (not way) mixed 0)) (pick (not common) no_common_router 0))))
ladder false untimed sized metrics whole many none same way common listed = refl
ladder true true sized metrics whole many none same way common listed = refl
ladder true false false metrics whole many none same way common listed = refl
ladder true false true false whole many none same way common listed = refl
ladder true false true true false many none same way common listed = refl
ladder true false true true true true none same way common listed = refl
ladder true false true true true false true same way common listed = refl
ladder true false true true true false false true way common listed = refl
ladder true false true true true false false false false common listed = refl
ladder true false true true true false false false true common listed = refl

module _ (n s : ℕ) (m l : List ℕ) (sized : Bool) where
  pub plan_parts :
      plan_refusal n s m l sized
      ≡ or_then (area_refusal n s m sized)
      (or_then (length_refusal l)
      (or_then (first (entry_count l) (listed_refusal n l))
      (or_then (direction_refusal n m l) (pick (not (is_common l (root l))) no_common_router 0))))
  unfolding plan_refusal change_refusal area_refusal length_refusal direction_refusal
  plan_parts =
      ladder (is_router_count n) (eqb s 0) sized (are_metrics n m) (eqb (length l % 5) 0)
      (ltb most_changes (entry_count l)) (eqb (entry_count l) 0) (is_same n m l) (is_rise n m l || is_fall n m l)
      (is_common l (root l)) (first (entry_count l) (listed_refusal n l))

  -- one law for each place where `judge` ends
  some : (k : Refusal) {a : ℕ} → refusal_number k ≡ a → a ≢ 0
  some k e z = omega (arith, refusal_positive k, e, z)

  pub at_area :
      (k : Refusal)
      → refusal_number k ≡ area_refusal n s m sized
      → refusal_number k ≡ plan_refusal n s m l sized
  at_area k e = e ∙ sym (plan_parts ∙ then_some (area_refusal n s m sized) _ (some k e))

  module _ (a : 0 ≡ area_refusal n s m sized) where
    past_area :
        plan_refusal n s m l sized
        ≡ or_then (length_refusal l)
        (or_then (first (entry_count l) (listed_refusal n l))
        (or_then (direction_refusal n m l) (pick (not (is_common l (root l))) no_common_router 0)))
    past_area = plan_parts ∙ then_none (area_refusal n s m sized) _ (sym a)

    pub at_length : (k : Refusal) → refusal_number k ≡ length_refusal l → refusal_number k ≡ plan_refusal n s m l sized
    at_length k e = e ∙ sym (past_area ∙ then_some (length_refusal l) _ (some k e))

    module _ (b : 0 ≡ length_refusal l) where
      past_length :
          plan_refusal n s m l sized
          ≡ or_then (first (entry_count l) (listed_refusal n l))
          (or_then (direction_refusal n m l) (pick (not (is_common l (root l))) no_common_router 0))
      past_length = past_area ∙ then_none (length_refusal l) _ (sym b)

      pub at_change :
          (k : Refusal)
          → refusal_number k ≡ first (entry_count l) (listed_refusal n l)
          → refusal_number k ≡ plan_refusal n s m l sized
      at_change k e = e ∙ sym (past_length ∙ then_some (first (entry_count l) (listed_refusal n l)) _ (some k e))

      module _ (c : 0 ≡ first (entry_count l) (listed_refusal n l)) where
        past_changes :
            plan_refusal n s m l sized
            ≡ or_then (direction_refusal n m l) (pick (not (is_common l (root l))) no_common_router 0)
        past_changes = past_length ∙ then_none (first (entry_count l) (listed_refusal n l)) _ (sym c)

        pub at_direction :
            (k : Refusal)
            → refusal_number k ≡ direction_refusal n m l
            → refusal_number k ≡ plan_refusal n s m l sized
        at_direction k e = e ∙ sym (past_changes ∙ then_some (direction_refusal n m l) _ (some k e))

        module _ (d : 0 ≡ direction_refusal n m l) where
          past_direction : plan_refusal n s m l sized ≡ pick (not (is_common l (root l))) no_common_router 0
          past_direction = past_changes ∙ then_none (direction_refusal n m l) _ (sym d)

          pub at_root : false ≡ is_common l (root l) → no_common_router ≡ plan_refusal n s m l sized
          at_root e = sym (past_direction ∙ rw (sym e) refl)

          pub at_end : true ≡ is_common l (root l) → 0 ≡ plan_refusal n s m l sized
          at_end e = sym (past_direction ∙ rw (sym e) refl)

-- the first part, by its tests
module _ (n s : ℕ) (m : List ℕ) (sized : Bool) where
  pub part_count : is_router_count n ≡ false → area_refusal n s m sized ≡ router_count
  unfolding area_refusal
  part_count a = rw a refl

  pub part_untimed : is_router_count n ≡ true → s ≡ 0 → area_refusal n s m sized ≡ no_step_time
  unfolding area_refusal
  part_untimed a b = rw (a, eq-eqb s 0 b) refl

  pub part_tables : is_router_count n ≡ true → s ≢ 0 → sized ≡ false → area_refusal n s m sized ≡ table_size
  unfolding area_refusal
  part_tables a b c = rw (a, ne_eqb s 0 b, c) refl

  pub part_metrics :
      is_router_count n ≡ true → s ≢ 0 → sized ≡ true → are_metrics n m ≡ false
      → area_refusal n s m sized ≡ bad_metric
  unfolding area_refusal
  part_metrics a b c d = rw (a, ne_eqb s 0 b, c, d) refl

  pub part_passed :
      is_router_count n ≡ true → s ≢ 0 → sized ≡ true → are_metrics n m ≡ true
      → area_refusal n s m sized ≡ 0
  unfolding area_refusal
  part_passed a b c d = rw (a, ne_eqb s 0 b, c, d) refl

  -- the area is one that Paths accepts
  pub part_ready : 0 ≡ area_refusal n s m sized → (sized ≡ true → length m ≡ width * width) → Ready n m
  part_ready z size = by_tests (look (is_router_count n)) (ℕ_discrete s 0) (look sized) (look (are_metrics n m))
    where
      never : {A : Type 0} (k : ℕ) → area_refusal n s m sized ≡ suc k → A
      never k q = absurd (let x : ⊥ = omega arith in x)

      by_tests :
          (is_router_count n ≡ true) ⊎ (is_router_count n ≡ false)
          → Dec (s ≡ 0)
          → (sized ≡ true) ⊎ (sized ≡ false)
          → (are_metrics n m ≡ true) ⊎ (are_metrics n m ≡ false)
          → Ready n m
      by_tests (inr a) b c d = never 2 (part_count a)
      by_tests (inl a) (yes b) c d = never 35 (part_untimed a b)
      by_tests (inl a) (no b) (inr c) d = never 7 (part_tables a b c)
      by_tests (inl a) (no b) (inl c) (inr d) = never 5 (part_metrics a b c d)
      by_tests (inl a) (no b) (inl c) (inl d) = area_ready n m (area_metrics n m a (table_true m (size c)) ∙ d)

pub ruleset judged_area = (
  part_count,
  part_untimed,
  part_tables,
  part_metrics,
  part_passed,
  area_metrics,
  router_count_true,
  router_count_low,
  router_count_high,
  table_true,
  common_steps,
)
