-- Laws of what a bench file gives before its first step.
--     read_passed, file_of_lem, plan_passed                Read, the file and its plan, where nothing is refused
--     record_passed, tables_passed                     what is handed back and left then
--     changes_within                                   the changes lie in the file
--     refusal_read, tables_read                        where Read refuses, and nothing is planned
--     refusal_given, record_given, tables_given        Plan on what Read gives
--     first_all, refusal_first                         the first bytes, one more than the largest file has, decide
-- Plan gets what Read hands back: the file's own n, times, metrics and changes. So Plan's answer is the definition's.
use Rattle.std.specs.Prelude.{ℕ, ◌+◌, ◌*◌, ◌≤◌, ◌<◌, ◌≡◌, ◌≢◌, List, length, take}
use Rattle.std.proofs.Math.Path.{refl, sym, ap}
use Rattle.std.proofs.Common.{◌∙◌, arith, eq-eqb, ne_eqb, take_all}
use Rattle.std.proofs.Math.Decide.{ℕ_discrete}
use Rattle.area.proofs.RefusalLaws.{refusal_positive}
use Rattle.area.proofs.TestLaws.{then_some, then_none, then_both}
use Rattle.plan.specs.Plan.{Tables, are_tables, plan_refusal, blank, record_of, tables_of as fills}
use Rattle.plan.specs.Planned.{Plan}
use Rattle.plan.proofs.PlanLaws.{plan_of, planned_true, planned_false}
use Rattle.plan.proofs.PlanLaws.{record_planned, record_refused, tables_planned, tables_refused}
use Rattle.bench_file.specs.Sections.{routers, change_count, changes_at, changes, hold_time, step_time, largest}
use Rattle.bench_file.specs.declared.Format.TheVariants.{New}
use Rattle.bench_file.proofs.FaultLaws.{Accepted}
use Rattle.bench_file.specs.declared.Contents.{Contents}
use Rattle.bench_file.specs.Read.{read_refusal, contents, contents_of, metrics_of}
use Rattle.bench_file.proofs.ReadLaws.{contents_accepted, metrics_accepted}
use Rattle.bench_file.proofs.FileLaws.{table_sized, file_passed, file_accepted}
use Rattle.bench_file.proofs.FileLaws.{contents_n, contents_changes, contents_times}
use Rattle.bench_file.proofs.FileLaws.{file_largest, first_bytes}
use Rattle.prepare.specs.Bench.{metrics, refusal, planned, filled_tables, record_at, tables_at, listed}

module _ (f m : List ℕ) where
  -- ---- where Read refuses nothing
  module _ (z : read_refusal f m ≡ 0) where
    of_file : contents_of f m ≡ contents New f
    of_file = contents_accepted f m z

    n_is : (contents_of f m).n ≡ routers f
    n_is = ap (λ (x : Contents). x.n) of_file ∙ contents_n New f

    starts : (contents_of f m).changes.at ≡ changes_at f
    starts = ap (λ (x : Contents). x.changes.at) of_file ∙ (contents_changes New f).0

    counted : (contents_of f m).changes.count ≡ change_count f
    counted = ap (λ (x : Contents). x.changes.count) of_file ∙ (contents_changes New f).1

    hold_is : (contents_of f m).hold_time ≡ hold_time New f
    hold_is = ap (λ (x : Contents). x.hold_time) of_file ∙ (contents_times New f).0

    step_is : (contents_of f m).step_time ≡ step_time New f
    step_is = ap (λ (x : Contents). x.step_time) of_file ∙ (contents_times New f).1

    list_is : listed f (contents_of f m) ≡ changes f
    list_is = rw (starts, counted) refl

    old_is : metrics_of f m ≡ metrics f
    old_is = metrics_accepted New f m (table_sized f m z) (file_passed f m z)

    pub changes_within : (c : Contents) → c ≡ contents_of f m → c.changes.at + 5 * c.changes.count ≤ length f
    changes_within c is = rw is (omega (arith, starts, counted, (file_accepted f m z).size))

  module _ (t : Tables) where
    -- ---- where nothing is refused
    module _ (z : refusal f m t ≡ 0) where
      both :
          (read_refusal f m ≡ 0)
          × (plan_refusal (routers f) (step_time New f) (metrics f) (changes f) (are_tables (metrics f) t) ≡ 0)
      unfolding refusal
      both = then_both (read_refusal f m) _ z

      pub read_passed : read_refusal f m ≡ 0
      read_passed = both.0

      pub file_of_lem : Accepted New f
      file_of_lem = file_accepted f m read_passed

      pub plan_passed : Plan (routers f) (metrics f) (changes f)
      plan_passed = plan_of (routers f) (step_time New f) (metrics f) (changes f) t both.1

      pub record_passed : record_at f m t ≡ planned f
      unfolding record_at
      record_passed = rw (eq-eqb (refusal f m t) 0 z) refl

      pub tables_passed : tables_at f m t ≡ filled_tables f
      unfolding tables_at
      tables_passed = rw (eq-eqb (refusal f m t) 0 z) refl

    -- ---- where something is refused
    module _ (g : refusal f m t ≢ 0) where
      record_blank : record_at f m t ≡ blank
      unfolding record_at
      record_blank = rw (ne_eqb (refusal f m t) 0 g) refl

      pub tables_kept : tables_at f m t ≡ t
      unfolding tables_at
      tables_kept = rw (ne_eqb (refusal f m t) 0 g) refl

    -- Read's refusal is the refusal, and its tables are as they were
    module _ (g : read_refusal f m ≢ 0) where
      pub refusal_read : refusal f m t ≡ read_refusal f m
      unfolding refusal
      refusal_read = then_some (read_refusal f m) _ g

      pub tables_read : tables_at f m t ≡ t
      tables_read = tables_kept (λ z. g (sym refusal_read ∙ z))

    -- ---- Read, and then Plan on what Read gives: c is what it says of the file, old the table that it leaves, and l
    -- the list that Plan gets
    module _
        (z : read_refusal f m ≡ 0)
        (c : Contents) (is : c ≡ contents_of f m)
        (old : List ℕ) (filled : old ≡ metrics_of f m)
        (l : List ℕ) (part : l ≡ listed f c)
      where
        list_of : l ≡ changes f
        list_of = part ∙ ap (listed f) is ∙ list_is z

        old_of : old ≡ metrics f
        old_of = filled ∙ old_is z

        n_of : c.n ≡ routers f
        n_of = ap (λ (x : Contents). x.n) is ∙ n_is z

        hold_of : c.hold_time ≡ hold_time New f
        hold_of = ap (λ (x : Contents). x.hold_time) is ∙ hold_is z

        step_of : c.step_time ≡ step_time New f
        step_of = ap (λ (x : Contents). x.step_time) is ∙ step_is z

        pub refusal_given : plan_refusal c.n c.step_time old l (are_tables old t) ≡ refusal f m t
        unfolding refusal
        refusal_given = rw (n_of, step_of, old_of, list_of) (sym (then_none (read_refusal f m) _ z))

        pub record_given : record_of c.n c.hold_time c.step_time old l t ≡ record_at f m t
        record_given = go (ℕ_discrete (refusal f m t) 0)
          where
            go : Dec (refusal f m t ≡ 0) → record_of c.n c.hold_time c.step_time old l t ≡ record_at f m t
            go (yes e) =
                record_planned c.n c.hold_time c.step_time old l t
                (planned_true c.n c.step_time old l t (refusal_given ∙ e))
                ∙ rw (n_of, hold_of, step_of, old_of, list_of) (sym (record_passed e))
            go (no g) =
                record_refused _ _ _ _ _ t (planned_false _ _ _ _ t (λ e. g (sym refusal_given ∙ e)))
                ∙ sym (record_blank g)

        pub tables_given : fills c.n c.step_time old l t ≡ tables_at f m t
        tables_given = go (ℕ_discrete (refusal f m t) 0)
          where
            go : Dec (refusal f m t ≡ 0) → fills c.n c.step_time old l t ≡ tables_at f m t
            go (yes e) =
                tables_planned c.n c.step_time old l t
                (planned_true c.n c.step_time old l t (refusal_given ∙ e))
                ∙ rw (n_of, old_of, list_of) (sym (tables_passed e))
            go (no g) =
                tables_refused _ _ _ _ t (planned_false _ _ _ _ t (λ e. g (sym refusal_given ∙ e)))
                ∙ sym (tables_kept g)

-- those by which `prepare` is proved
pub ruleset planning = (
  refusal_positive,
  changes_within,
  refusal_read,
  tables_read,
  refusal_given,
  record_given,
  tables_given,
)

-- ---- the first bytes of an input, more than the largest file has
module _ (f m : List ℕ) (t : Tables) where
  whole : read_refusal f m ≡ 0 → (k : ℕ) → largest < k → take k f ≡ f
  whole z k more = take_all k f (omega (arith, file_largest f m z))

  -- a file that is not refused has no byte beyond them
  pub first_all : refusal f m t ≡ 0 → (k : ℕ) → largest < k → take k f ≡ f
  first_all z = whole (read_passed f m t z)

  -- and they are refused as all of it is
  pub refusal_first : (k : ℕ) → largest < k → refusal (take k f) m t ≡ refusal f m t
  refusal_first k more = by_read (ℕ_discrete (read_refusal f m) 0)
    where
      same : read_refusal (take k f) m ≡ read_refusal f m
      same = (first_bytes f m k more).0

      by_read : Dec (read_refusal f m ≡ 0) → refusal (take k f) m t ≡ refusal f m t
      by_read (yes z) = ap (λ (l : List ℕ). refusal l m t) (whole z k more)
      by_read (no g) =
          refusal_read (take k f) m t (λ z. g (sym same ∙ z))
          ∙ same
          ∙ sym (refusal_read f m t g)
