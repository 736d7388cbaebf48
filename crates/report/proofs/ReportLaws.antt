-- Laws of all that is printed: from what `prepare` gives to the whole text. `prepare` answers with a refusal or with a
-- record and where the steps are, and leaves tables, each by an equation on the file. Where it refuses, that one line
-- is the text. Where it does not, the record is Plan's, the steps are those of the file and the tables are filled by
-- Plan, so their lines are the lines of the definition; and what the file was accepted for gives the bounds that the
-- loops ask for.
--     text_refused                               the text where Read or Plan refuses
--     rehearsal_whole, routes_whole, sheet_turns_whole, sheet_steps_whole, unfinished_whole
--                                                the text where neither refuses
--     ready                                      `prepare` gives what the lines ask for (specs/Parts.antt)
--     text_by_answer                             the text by what `prepare` answers
use Rattle.std.specs.Prelude.{ℕ, ◌*◌, ◌≡◌, ◌≢◌, List, drop, Result, Ok, Err, IfOk}
use Rattle.std.proofs.Math.Path.{refl}
use Rattle.std.proofs.Common.{sym, ap, subst, ◌∙◌, arith, eq-eqb, ne_eqb, length-take}
use Rattle.area.specs.declared.refusal.Refusal.{Refusal}
use Rattle.area.specs.Refusals.{verdict_number}
use Rattle.area.proofs.RefusalLaws.{refusal_positive}
use Rattle.area.proofs.SizeLaws.{router_count_most}
use Rattle.plan.specs.declared.Record.{Record}
use Rattle.plan.specs.Plan.{Tables}
use Rattle.plan.proofs.PlanLaws.{filled_size}
use Rattle.plan.proofs.FreshLaws.{fresh_count, fresh_hold}
use Rattle.sheet.specs.Follow.{sheet_calls}
use Rattle.sheet.proofs.LengthLaws.{fresh_length}
use Rattle.bench_file.specs.declared.Format.TheVariants.{New}
use Rattle.bench_file.specs.Sections.{routers, changes, hold_time, step_time, step_count, steps_at, steps}
use Rattle.bench_file.specs.declared.Contents.{Contents}
use Rattle.bench_file.specs.declared.Section.{Section}
use Rattle.bench_file.specs.Read.{contents, contents_of}
use Rattle.bench_file.proofs.ReadLaws.{contents_accepted}
use Rattle.bench_file.proofs.FileLaws.{contents_steps}
use Rattle.text.specs.Text.{word, line, refused_line}
use Rattle.text.proofs.TextLaws.{refused_is}
use Rattle.prepare.specs.declared.Start.{Start}
use Rattle.prepare.specs.Bench.{metrics, refusal, planned, filled_tables, record_at, tables_at}
use Rattle.prepare.proofs.BenchLaws.{read_passed, file_of_lem, plan_passed, record_passed, tables_passed}
use Rattle.report.specs.Lines.{rehearsal_lines, routes_lines, sheet_lines, step_section, unfinished_after}
use Rattle.report.specs.Report.{unless_refused, rehearsal, routes, sheet_turns, sheet_steps, unfinished, text_of}
use Rattle.report.specs.declared.Text.{Text}
use Rattle.report.specs.declared.Text.TheVariants.{Rehearsal, Routes, SheetTurns, SheetSteps, Unfinished}
use Rattle.report.specs.Parts.{step_bytes, Within, Full, Counted, Ready, lines_by, text_by}

abbrev lines_in : (text : Text) (r : Record) (bytes : List ℕ) (u : Tables) → List ℕ
lines_in text r bytes u = lines_by text r bytes u.old u.new

-- ---- the whole
module _ (f m : List ℕ) (t : Tables) where
  -- each text is the refusal, or its lines
  text_is :
      (text : Text)
      → text_of text f m t ≡ unless_refused (refusal f m t) (lines_in text (planned f) (steps New f) (filled_tables f))
  unfolding rehearsal routes sheet_turns sheet_steps unfinished
  text_is Rehearsal = refl
  text_is Routes = rw (fresh_count (routers f) (hold_time New f) (step_time New f) (metrics f) (changes f)) refl
  text_is SheetTurns = refl
  text_is SheetSteps = refl
  text_is Unfinished = refl

  pub text_refused :
      (text : Text)
      → refusal f m t ≢ 0
      → text_of text f m t ≡ line (word "refused ") (refusal f m t)
  text_refused text g = rw (text_is text, ne_eqb (refusal f m t) 0 g) (refused_is (refusal f m t))

  module _ (z : refusal f m t ≡ 0) where
    pub rehearsal_whole : rehearsal f m t ≡ rehearsal_lines (planned f) (steps New f)
    unfolding rehearsal
    rehearsal_whole = rw (eq-eqb (refusal f m t) 0 z) refl

    pub unfinished_whole : unfinished f m t ≡ unfinished_after (planned f) (steps New f)
    unfolding unfinished
    unfinished_whole = rw (eq-eqb (refusal f m t) 0 z) refl

    pub routes_whole :
        let p = filled_tables f in
        routes f m t
        ≡ routes_lines p.old.distances p.old.hops p.new.distances p.new.hops (routers f)
    unfolding routes
    routes_whole = rw (eq-eqb (refusal f m t) 0 z) refl

    pub sheet_turns_whole : sheet_turns f m t ≡ sheet_lines (planned f)
    unfolding sheet_turns
    sheet_turns_whole = rw (eq-eqb (refusal f m t) 0 z) refl

    pub sheet_steps_whole : sheet_steps f m t ≡ step_section (sheet_calls (planned f))
    unfolding sheet_steps
    sheet_steps_whole = rw (eq-eqb (refusal f m t) 0 z) refl

  -- ---- by what `prepare` answers, where u are the tables that it leaves
  module _
      (u : Tables) (filled : u ≡ tables_at f m t)
      (x : Start) (is : x.record ≡ record_at f m t) (placed : x.steps ≡ (contents_of f m).steps)
      (z : refusal f m t ≡ 0)
    where
      fresh : x.record ≡ planned f
      fresh = is ∙ record_passed f m t z

      of_file : x.steps ≡ (contents New f).steps
      of_file = placed ∙ ap (λ (c : Contents). c.steps) (contents_accepted f m (read_passed f m t z))

      starts : x.steps.at ≡ steps_at New f
      starts = ap (λ (s : Section). s.at) of_file ∙ (contents_steps New f).0

      counted_steps : x.steps.count ≡ step_count New f
      counted_steps = ap (λ (s : Section). s.count) of_file ∙ (contents_steps New f).1

      bytes_are : step_bytes f x.steps ≡ steps New f
      bytes_are = rw (starts, counted_steps) refl

      by_plan : u ≡ filled_tables f
      by_plan = filled ∙ tables_passed f m t z

      full_tables : Full u.old u.new
      full_tables =
          let size = filled_size (routers f) (metrics f) (changes f) in
          let full : Full (filled_tables f).old (filled_tables f).new =
          record {
            old_distances = size.old.distances;
            old_hops = size.old.hops;
            new_distances = size.new.distances;
            new_hops = size.new.hops;
          } in
          subst (λ (v : Tables). Full v.old v.new) (sym by_plan) full

      -- how many calls follow the sheet
      counted : Counted x.record
      counted = rw fresh of_plan
        where
          of_plan : Counted (planned f)
          of_plan short =
              let hold = hold_time New f in
              let step = step_time New f in
              let is = fresh_hold (routers f) hold step (metrics f) (changes f) in
              let plan = plan_passed f m t z in
              omega
              (arith, is, fresh_length (routers f) hold step (metrics f) (changes f) plan (omega (arith, is)))

      ready_of : Within f x.steps × Ready x.record (step_bytes f x.steps) u.old u.new
      ready_of =
          let file = file_of_lem f m t z in
          let of-record = ap (λ (r : Record). r.n) fresh in
          let many = fresh_count (routers f) (hold_time New f) (step_time New f) (metrics f) (changes f) in
          let bytes = length-take (3 * x.steps.count) (drop x.steps.at f) in
          let is-ready : Ready x.record (step_bytes f x.steps) u.old u.new =
          record {
            few = omega (arith, of-record, many, router_count_most (routers f) file.routers_in);
            most = omega (arith, bytes, counted_steps, file.most_steps_lem);
            counted = counted;
            full = full_tables;
          } in
          (omega (arith, starts, counted_steps, file.size), is-ready)

      same_lines : (text : Text) → lines_in text x.record (step_bytes f x.steps) u ≡ text_of text f m t
      same_lines text =
          rw (bytes_are, fresh, by_plan) (sym (text_is text ∙ rw (eq-eqb (refusal f m t) 0 z) refl))

  module _ (u : Tables) (filled : u ≡ tables_at f m t) where
    pub ready :
        (start : Result Start Refusal)
        → verdict_number start ≡ refusal f m t
        → IfOk start (λ x. x.record ≡ record_at f m t)
        → IfOk start (λ x. x.steps ≡ (contents_of f m).steps)
        → IfOk start (λ x. Within f x.steps × Ready x.record (step_bytes f x.steps) u.old u.new)
    ready (Ok x) told is placed = ready_of u filled x is placed (sym told)
    ready (Err why) told is placed = tt

    pub text_by_answer :
        (text : Text) (start : Result Start Refusal)
        → verdict_number start ≡ refusal f m t
        → IfOk start (λ x. x.record ≡ record_at f m t)
        → IfOk start (λ x. x.steps ≡ (contents_of f m).steps)
        → text_by text f start u.old u.new ≡ text_of text f m t
    text_by_answer text (Ok x) told is placed = same_lines u filled x is placed (sym told) text
    text_by_answer text (Err why) told is placed =
        let some = refusal_positive why in
        let refused = text_is text ∙ rw (ne_eqb (refusal f m t) 0 (λ z. omega (arith, told, z))) refl in
        sym (refused ∙ ap refused_line (sym told))
