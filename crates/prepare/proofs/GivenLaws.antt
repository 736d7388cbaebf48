-- Plan on what Read gives of a file, whether Read refuses or not. Where it does not, these are the file's own n, times,
-- metrics and changes, and so Plan's answer is the definition's. Where it does, n is 0: Plan refuses too, so that its
-- record is blank and its tables are as they were, as the definition says.
--     n, hold, step, list              what Read gives
--     refused_n, changes_within        n is 0 where Read refuses, and the changes lie in the file always
--     then                             Plan's refusal of it
--     then_is, then_refused, plan_refused, planned_is
--                                      where Read refuses nothing, and where it refuses
--     refusal_both, record_both, tables_both
--                                      Read's refusal and then Plan's, its record and its tables are the definition's
--     refusal_given, record_given, tables_given
--                                      the same, for what is handed on
use Rattle.std.specs.Prelude.{ℕ, ◌+◌, ◌*◌, ◌≤◌, ◌≡◌, true, ◌≢◌, List, length}
use Rattle.std.proofs.Math.Path.{refl, sym, ap}
use Rattle.std.proofs.Common.{ap₂, ◌∙◌, arith, ne_eqb}
use Rattle.std.proofs.Math.Decide.{ℕ_discrete}
use Rattle.area.specs.Tests.{or_then}
use Rattle.area.proofs.TestLaws.{then_some, then_none, then_both}
use Rattle.area.proofs.SizeLaws.{router_count_low}
use Rattle.plan.specs.declared.Record.{Record}
use Rattle.plan.specs.Plan.{Tables, are_tables, plan_refusal, is_planned, blank, record_of, tables_of as fills}
use Rattle.plan.proofs.PlanLaws.{plan_count, planned_true, planned_false}
use Rattle.plan.proofs.PlanLaws.{record_refused, tables_refused}
use Rattle.bench_file.specs.Sections.{routers, changes, hold_time, step_time}
use Rattle.bench_file.specs.declared.Format.TheVariants.{New}
use Rattle.bench_file.specs.declared.Contents.{Contents}
use Rattle.bench_file.specs.Read.{read_refusal, contents_of, metrics_of}
use Rattle.bench_file.proofs.ReadLaws.{contents_refused}
use Rattle.bench_file.proofs.FileLaws.{no_contents_n, no_contents_changes}
use Rattle.prepare.specs.Bench.{metrics, refusal, record_at, tables_at, listed}
use Rattle.prepare.proofs.BenchLaws as accepted

module _ (f m : List ℕ) where
  pub refused_n : read_refusal f m ≢ 0 → (contents_of f m).n ≡ 0
  refused_n g = ap (λ (x : Contents). x.n) (contents_refused f m g) ∙ no_contents_n

  abbrev pub Within : (c : Contents) → Type 0
  Within c = c.changes.at + 5 * c.changes.count ≤ length f

  pub changes_within : (c : Contents) → c ≡ contents_of f m → Within c
  changes_within c is = rw is (go (ℕ_discrete (read_refusal f m) 0))
    where
      go : Dec (read_refusal f m ≡ 0) → Within (contents_of f m)
      go (yes z) = accepted.changes_within f m z (contents_of f m) refl
      go (no g) =
          let at = ap (λ (x : Contents). x.changes.at) (contents_refused f m g) in
          let count = ap (λ (x : Contents). x.changes.count) (contents_refused f m g) in
          omega (arith, at, count, no_contents_changes.0, no_contents_changes.1)

  module _ (t : Tables) where
    -- ---- Read, and then Plan on what Read gives
    -- its n, its times, its list, and Plan's refusal
    abbrev pub n : ℕ
    n = (contents_of f m).n

    abbrev pub hold : ℕ
    hold = (contents_of f m).hold_time

    abbrev pub step : ℕ
    step = (contents_of f m).step_time

    abbrev pub list : List ℕ
    list = listed f (contents_of f m)

    abbrev pub then : ℕ
    then = plan_refusal n step (metrics_of f m) list (are_tables (metrics_of f m) t)

    -- Read refuses nothing: Plan's refusal is that of the file
    plan_alone : read_refusal f m ≡ 0 → then ≡ refusal f m t
    plan_alone z = accepted.refusal_given f m t z (contents_of f m) refl (metrics_of f m) refl list refl

    pub then_is :
        read_refusal f m ≡ 0
        → then ≡ plan_refusal (routers f) (step_time New f) (metrics f) (changes f) (are_tables (metrics f) t)
    unfolding refusal
    then_is z = plan_alone z ∙ then_none (read_refusal f m) _ z

    pub then_refused : read_refusal f m ≢ 0 → then ≢ 0
    then_refused g e =
        let none = router_count_low n (omega (arith, refused_n g)) in
        let three = plan_count n step (metrics_of f m) list (are_tables (metrics_of f m) t) none in
        omega (arith, three, e)

    pub refusal_both : or_then (read_refusal f m) then ≡ refusal f m t
    unfolding refusal
    refusal_both = go (ℕ_discrete (read_refusal f m) 0)
      where
        go : Dec (read_refusal f m ≡ 0) → or_then (read_refusal f m) then ≡ refusal f m t
        go (yes z) = ap (or_then (read_refusal f m)) (then_is z)
        go (no g) = then_some (read_refusal f m) then g ∙ sym (then_some (read_refusal f m) _ g)

    -- where the file is refused, Plan refuses what it is given
    pub plan_refused : refusal f m t ≢ 0 → then ≢ 0
    plan_refused g e = go (ℕ_discrete (read_refusal f m) 0)
      where
        go : Dec (read_refusal f m ≡ 0) → ⊥
        go (yes z) = g (sym refusal_both ∙ then_none (read_refusal f m) then z ∙ e)
        go (no h) = then_refused h e

    pub planned_is : refusal f m t ≡ 0 → is_planned (routers f) (step_time New f) (metrics f) (changes f) t ≡ true
    unfolding refusal
    planned_is z =
        planned_true (routers f) (step_time New f) (metrics f) (changes f) t (then_both (read_refusal f m) _ z).1

    blank_read : read_refusal f m ≢ 0 → record_at f m t ≡ blank
    unfolding record_at
    blank_read g =
        let bad : refusal f m t ≢ 0 = λ z. g (sym (accepted.refusal_read f m t g) ∙ z) in
        rw (ne_eqb (refusal f m t) 0 bad) refl

    pub record_both : record_of n hold step (metrics_of f m) list t ≡ record_at f m t
    record_both = go (ℕ_discrete (read_refusal f m) 0)
      where
        go : Dec (read_refusal f m ≡ 0) → record_of n hold step (metrics_of f m) list t ≡ record_at f m t
        go (yes z) = accepted.record_given f m t z (contents_of f m) refl (metrics_of f m) refl list refl
        go (no g) = record_refused _ _ _ _ _ t (planned_false _ _ _ _ t (then_refused g)) ∙ sym (blank_read g)

    pub tables_both : fills n step (metrics_of f m) list t ≡ tables_at f m t
    tables_both = go (ℕ_discrete (read_refusal f m) 0)
      where
        go : Dec (read_refusal f m ≡ 0) → fills n step (metrics_of f m) list t ≡ tables_at f m t
        go (yes z) = accepted.tables_given f m t z (contents_of f m) refl (metrics_of f m) refl list refl
        go (no g) =
            tables_refused _ _ _ _ t (planned_false _ _ _ _ t (then_refused g))
            ∙ sym (accepted.tables_read f m t g)

    -- c is what Read says of the file, old the table that it leaves, and l the list that Plan gets
    module _
        (c : Contents) (is : c ≡ contents_of f m)
        (old : List ℕ) (filled : old ≡ metrics_of f m)
        (l : List ℕ) (part : l ≡ listed f c)
      where
        pub refusal_given :
            {a b k : ℕ}
            → a ≡ read_refusal f m
            → b ≡ plan_refusal c.n c.step_time old l (are_tables old t)
            → k ≡ or_then a b
            → k ≡ refusal f m t
        refusal_given u v w = w ∙ ap₂ or_then u (rw (part, filled, is) at v) ∙ refusal_both

        pub record_given :
            {r : Record}
            → r ≡ record_of c.n c.hold_time c.step_time old l t
            → r ≡ record_at f m t
        record_given u = (rw (part, filled, is) at u) ∙ record_both

        pub tables_given : {u : Tables} → u ≡ fills c.n c.step_time old l t → u ≡ tables_at f m t
        tables_given u = (rw (part, filled, is) at u) ∙ tables_both
