-- How many calls it takes to follow a sheet: each is answered ok, and in the end all routers are done and every waiting
-- set is empty (FollowLaws.antt). So those that count are as many as the change needs (02, No. 8), and the others are
-- the ticks of the hold time.
--     uncounted                        how many calls of a list do not count
--     all_counted                      where all calls of a list are answered ok, the others are those that are counted
--     sheet_uncounted                  of a sheet, the ticks
--     fresh_length, sheet_length       the calls of a plan's sheet, by its fresh record and by what Plan hands back
--     fresh_fits, sheet_fits           up to so many routers, those that count never exceed the steps of a bench file
use Rattle.std.specs.Prelude.{ℕ, zero, suc, ◌+◌, ◌≤◌, ◌≡◌, refl, Bool, true, false, not, ◌&&◌, List, [], ◌∷◌, ◌++◌}
use Rattle.std.specs.Prelude.{length, get_or}
use Rattle.std.proofs.Common.{ap, arith}
use Rattle.area.specs.Limits.{longest_time, most_steps}
use Rattle.area.specs.Tests.{pick}
use Rattle.sets.specs.Sets.{num, bit}
use Rattle.plan.specs.declared.Record.{Record}
use Rattle.plan.specs.Plan.{Tables, are_tables, plan_refusal, fresh, record_of}
use Rattle.plan.specs.Planned.{Plan}
use Rattle.plan.proofs.PlanLaws.{plan_of, planned_true, record_planned}
use Rattle.plan.proofs.FreshLaws.{fresh_count, fresh_hold, fresh_clock, fresh_learned}
use Rattle.machine.specs.Answers.{Reply}
use Rattle.machine.specs.Machine.{learn_kind, release_kind, write_kind, finish_kind, deliver_kind, telling_of, due_of}
use Rattle.machine.specs.Run.{Call, call, step, is_ok, ticks}
use Rattle.machine.proofs.RunLaws.{fresh_start}
use Rattle.machine.proofs.HeldLaws.{fresh_held}
use Rattle.machine.proofs.OrderedLaws.{fresh_ordered}
use Rattle.needs.specs.Needs.{is_counted, oks, needs}
use Rattle.needs.proofs.CountedLaws.{oks_none, oks_next}
use Rattle.needs.proofs.NeedsLaws.{start_exactly, needs_few}
use Rattle.sheet.specs.Sheet.{sheet_of}
use Rattle.sheet.specs.Follow.{each, call_each, call_members, turn, hold_ticks, sheet_calls, AllOk}
use Rattle.sheet.proofs.WentLaws.{Went}
use Rattle.sheet.proofs.FollowLaws.{Ended, ordered_followed}

-- ---- the calls that do not count
abbrev uncounted : (calls : List Call) → ℕ
uncounted [] = 0
uncounted (c ∷ cs) = num (not (is_counted c.kind)) + uncounted cs

all_counted : (r : Record) (calls : List Call) → AllOk r calls → oks r calls + uncounted calls ≡ length calls
all_counted r [] all = omega (arith, oks_none r)
all_counted r (c ∷ cs) all =
    let counted = is_counted c.kind in
    let one = ap (λ (x : Reply). num (counted && is_ok x)) all.0 in
    omega (arith, oks_next r c cs, one, either counted, all_counted (step r c).next cs all.1)
  where
    either : (b : Bool) → num (b && true) + num (not b) ≡ 1
    either true = refl
    either false = refl

-- ---- those of a sheet
joined : (calls more : List Call) → uncounted (calls ++ more) ≡ uncounted calls + uncounted more
joined [] more = omega arith
joined (c ∷ cs) more = omega (arith, joined cs more)

all_ticks : (count : ℕ) → uncounted (ticks count) ≡ count
all_ticks zero = refl
all_ticks (suc count) = omega (arith, all_ticks count)

none_of_each :
    (n : ℕ) (f : ℕ → List Call)
    → ((k : ℕ) → uncounted (f k) ≡ 0)
    → uncounted (each n f) ≡ 0
unfolding each
none_of_each zero f none = refl
none_of_each (suc n) f none = omega (arith, joined (each n f) (f n), none_of_each n f none, none n)

none_of_members :
    (n set : ℕ) (c : ℕ → Call)
    → ((k : ℕ) → uncounted (c k ∷ []) ≡ 0)
    → uncounted (call_members n set c) ≡ 0
none_of_members n set c none = none_of_each n (λ k. pick (bit set k) (c k ∷ []) []) (λ k. picked k (bit set k))
  where
    picked : (k : ℕ) (b : Bool) → uncounted (pick b (c k ∷ []) []) ≡ 0
    picked k true = none k
    picked k false = refl

none_of_turn : (r : Record) (a : ℕ) → uncounted (turn r a) ≡ 0
none_of_turn r a =
    let writing = call_members r.n (due_of r a) (λ d. call write_kind a d) in
    let finishing = call finish_kind a 0 ∷ [] in
    let telling = call_members r.n (telling_of r a) (λ t. call deliver_kind a t) in
    omega (
      arith,
      joined writing (finishing ++ telling),
      joined finishing telling,
      none_of_members r.n (due_of r a) (λ d. call write_kind a d) (λ k. refl),
      none_of_members r.n (telling_of r a) (λ t. call deliver_kind a t) (λ k. refl),
    )

sheet_uncounted : (r : Record) → uncounted (sheet_calls r) ≡ r.hold_time
sheet_uncounted r =
    let place : ℕ → ℕ = λ k. get_or (sheet_of r) k 0 in
    let learning = call_each r.n (λ x. call learn_kind x 0) in
    let holding = hold_ticks r in
    let releasing = call_each r.n (λ x. call release_kind x 0) in
    let turns = each r.n (λ k. turn r (place k)) in
    omega (
      arith,
      joined learning (holding ++ (releasing ++ turns)),
      joined holding (releasing ++ turns),
      joined releasing turns,
      all_ticks r.hold_time,
      none_of_each r.n (λ x. call learn_kind x 0 ∷ []) (λ k. refl),
      none_of_each r.n (λ x. call release_kind x 0 ∷ []) (λ k. refl),
      none_of_each r.n (λ k. turn r (place k)) (λ k. none_of_turn r (place k)),
    )

-- Up to so many routers, a bench file has room for the steps of every sheet, but for its ticks. A larger area can have
-- more: where all links of one router fall in a full mesh of 64, a sheet has 4,161 besides its ticks.
abbrev pub always_fit : ℕ
always_fit = 44

module _ (n hold step : ℕ) (m l : List ℕ) (p : Plan n m l) (short : hold ≤ longest_time) where
  abbrev first : Record
  first = fresh n hold step m l

  has_hold : first.hold_time ≡ hold
  has_hold = fresh_hold n hold step m l

  went : Went Ended first (sheet_calls first)
  went =
      ordered_followed (fresh_ordered n hold step m l p) (fresh_start n hold step m l) (fresh_held n hold step m l)
      (fresh_clock n hold step m l) (fresh_learned n hold step m l) (omega (arith, has_hold))

  pub fresh_length : length (sheet_calls first) ≡ needs first + hold
  fresh_length =
      let calls = sheet_calls first in
      let held = fresh_held n hold step m l in
      let exactly = start_exactly (fresh_start n hold step m l) held calls went.reached.0 went.reached.1 in
      omega (arith, all_counted first calls went.all_ok, exactly, sheet_uncounted first, has_hold)

  pub fresh_fits : n ≤ always_fit → length (sheet_calls first) ≤ most_steps + hold
  fresh_fits few =
      let count = fresh_count n hold step m l in
      let most = needs_few (fresh_ordered n hold step m l p) always_fit (omega (arith, count)) in
      omega (arith, fresh_length, most, count)

module _
    (n hold step : ℕ) (m l : List ℕ) (t : Tables)
    (z : plan_refusal n step m l (are_tables m t) ≡ 0) (short : hold ≤ longest_time)
  where
    abbrev planned : Record
    planned = record_of n hold step m l t

    is_fresh : planned ≡ fresh n hold step m l
    is_fresh = record_planned n hold step m l t (planned_true n step m l t z)

    pub sheet_length : length (sheet_calls planned) ≡ needs planned + hold
    sheet_length = rw is_fresh (fresh_length n hold step m l (plan_of n step m l t z) short)

    pub sheet_fits : n ≤ always_fit → length (sheet_calls planned) ≤ most_steps + hold
    sheet_fits = rw is_fresh (fresh_fits n hold step m l (plan_of n step m l t z) short)
