-- What is printed of a sheet's steps, read again. Decoded as a text in hexadecimal it is the count of the steps and the
-- bytes of the calls, and these bytes stand for the calls: so what is put into a bench file is what was meant.
-- Each number of a call fits a byte: a kind is at most 6, and a place of the sheet holds at most n.
--     call_says, calls_say, count_says                 lines and all lines say what they are printed for
--     InBytes, AllInBytes, sheet_in_bytes              calls whose numbers are bytes; those of a sheet are
--     call_bytes, calls_back                            the bytes of calls, and the calls that they stand for
--     steps_fit                                        up to 44 routers, a sheet without hold time never has too many
--                                                      steps for a file
--     section_read, steps_read                         the section of such calls, and the steps of a file's sheet
use Rattle.std.specs.Prelude.{ℕ, zero, suc, ◌+◌, ◌/◌, ◌%◌, ◌≤◌, ◌<◌, ◌≡◌, Bool, true, false, List}
use Rattle.std.specs.Prelude.{[], ◌∷◌, ◌++◌, length, get_or}
use Rattle.std.proofs.Common.{ap, ◌∙◌, add-one, arith, le-leb}
use Rattle.std.proofs.Math.Decide.{dec_lt}
use Rattle.area.specs.Limits.{width, longest_time, most_steps}
use Rattle.area.specs.Tests.{pick, lowest}
use Rattle.area.proofs.SizeLaws.{router_count_most}
use Rattle.area.proofs.LowestLaws.{lowest_below, lowest_none}
use Rattle.sets.specs.Sets.{bit}
use Rattle.plan.specs.declared.Record.{Record}
use Rattle.plan.specs.Plan.{Tables}
use Rattle.plan.proofs.FreshLaws.{fresh_count}
use Rattle.machine.specs.Machine.{learn_kind, release_kind, write_kind, finish_kind, deliver_kind}
use Rattle.machine.specs.Machine.{waiting_of, due_of, telling_of}
use Rattle.machine.specs.Run.{Call, call, ticks, calls_of}
use Rattle.machine.proofs.CallLaws.{no_call, next_call}
use Rattle.sheet.specs.Sheet.{could_come, placed, sheet_of}
use Rattle.sheet.proofs.SheetLaws.{sheet_at}
use Rattle.sheet.specs.Follow.{each, call_each, call_members, turn, hold_ticks, sheet_calls}
use Rattle.sheet.proofs.LengthLaws.{always_fit, fresh_fits}
use Rattle.sheet.proofs.EachLaws.{each_none, each_more}
use Rattle.bench_file.specs.declared.Format.TheVariants.{New}
use Rattle.bench_file.specs.Sections.{routers, changes, hold_time, step_time}
use Rattle.hexadecimal.specs.Hex.{most, unhexed}
use Rattle.hexadecimal.proofs.PairLaws.{Says, says_none, says_then, byte_says, says_blank, says_newline, says_whole}
use Rattle.prepare.specs.Bench.{metrics, refusal, planned}
use Rattle.prepare.proofs.BenchLaws.{file_of_lem, plan_passed}
use Rattle.report.specs.Lines.{count_line, call_line, call_lines, step_section}
use Rattle.report.proofs.LengthLaws.{section_most}
use Rattle.report.specs.Report.{sheet_steps}
use Rattle.report.proofs.ReportLaws.{sheet_steps_whole}

-- ---- calls whose numbers are bytes
abbrev pub InBytes : (c : Call) → Type 0
InBytes c = (c.kind < 256) × (c.a < 256) × (c.b < 256)

abbrev pub AllInBytes : (calls : List Call) → Type 0
AllInBytes [] = Unit {0}
AllInBytes (c ∷ cs) = InBytes c × AllInBytes cs

-- kind, a and b of each call
unfoldable pub call_bytes : (calls : List Call) → List ℕ
call_bytes [] = []
call_bytes (c ∷ cs) = c.kind ∷ c.a ∷ c.b ∷ call_bytes cs

call_says : (c : Call) → InBytes c → Says (call_line c) (c.kind ∷ c.a ∷ c.b ∷ [])
unfolding call_line
call_says c small =
    says_then (byte_says c.kind small.0) (says_then says_blank
    (says_then (byte_says c.a small.1) (says_then says_blank
    (says_then (byte_says c.b small.2) says_newline))))

calls_say : (calls : List Call) → AllInBytes calls → Says (call_lines calls) (call_bytes calls)
unfolding call_lines call_bytes
calls_say [] small = says_none
calls_say (c ∷ cs) small = says_then (call_says c small.0) (calls_say cs small.1)

pub calls_back : (calls : List Call) → calls_of (call_bytes calls) ≡ calls
unfolding call_bytes
calls_back [] = no_call [] 0 (omega arith)
calls_back (c ∷ cs) =
    next_call (c.kind ∷ c.a ∷ c.b ∷ call_bytes cs) 0 (omega arith)
    ∙ ap (λ (l : List Call). c ∷ l) (calls_back cs)

count_says : (count : ℕ) → count < 65536 → Says (count_line count) ((count / 256) ∷ (count % 256) ∷ [])
unfolding count_line
count_says count h =
    says_then (byte_says (count / 256) (omega arith))
    (says_then (byte_says (count % 256) (omega arith)) says_newline)

-- the section says the count and the calls
pub section_read :
    (calls : List Call)
    → AllInBytes calls
    → length calls ≤ most_steps
    → unhexed (step_section calls) ≡ (length calls / 256) ∷ (length calls % 256) ∷ call_bytes calls
unfolding step_section
section_read calls small few =
    let count = count_says (length calls) (omega arith) in
    let short : length (step_section calls) ≤ most = omega (arith, section_most calls) in
    rw (le-leb (length calls) most_steps few)
    (says_whole (says_then count (calls_say calls small)) (rw (le-leb (length calls) most_steps few) at short))

-- ---- the calls of a sheet
joined : (calls more : List Call) → AllInBytes calls → AllInBytes more → AllInBytes (calls ++ more)
joined [] more x y = y
joined (c ∷ cs) more x y = (x.0, joined cs more x.1 y)

all_of : (n : ℕ) (f : ℕ → List Call) → ((k : ℕ) → k < n → AllInBytes (f k)) → AllInBytes (each n f)
all_of zero f small = rw (each_none f) tt
all_of (suc n) f small =
    let more : each (suc n) f ≡ each n f ++ f n = rw add-one at (each_more f n) in
    rw more (joined (each n f) (f n) (all_of n f (λ k h. small k (omega arith))) (small n (omega arith)))

members_of :
    (n set : ℕ) (c : ℕ → Call)
    → ((k : ℕ) → k < n → InBytes (c k))
    → AllInBytes (call_members n set c)
members_of n set c small = all_of n (λ k. pick (bit set k) (c k ∷ []) []) (λ k h. by_test k h (bit set k))
  where
    by_test : (k : ℕ) → k < n → (b : Bool) → AllInBytes (pick b (c k ∷ []) [])
    by_test k h true = (small k h, tt)
    by_test k h false = tt

ticks_of : (count : ℕ) → AllInBytes (ticks count)
ticks_of zero = tt
ticks_of (suc count) = ((omega arith, omega arith, omega arith), ticks_of count)

module _ (r : Record) (few : r.n ≤ width) where
  place_most : (k : ℕ) → k < r.n → get_or (sheet_of r) k 0 ≤ width
  place_most k h =
      let n = r.n in
      let w = waiting_of r in
      let p = could_come w (placed n w k) in
      rw (sheet_at r few k h) (elim (dec_lt n (lowest n p)) [
        | yes above ↦ omega (arith, lowest_none p n (λ j l. lowest_below p n j (omega arith)))
        | no f ↦ omega arith
      ])

  turn_of : (a : ℕ) → a ≤ width → AllInBytes (turn r a)
  turn_of a h =
      joined (call_members r.n (due_of r a) (λ d. call write_kind a d)) _ writes (finish, messages)
    where
      writes : AllInBytes (call_members r.n (due_of r a) (λ d. call write_kind a d))
      writes =
          members_of r.n (due_of r a) (λ d. call write_kind a d)
          (λ k l. (omega arith, omega arith, omega arith))

      finish : InBytes (call finish_kind a 0)
      finish = (omega arith, omega arith, omega arith)

      messages : AllInBytes (call_members r.n (telling_of r a) (λ t. call deliver_kind a t))
      messages =
          members_of r.n (telling_of r a) (λ t. call deliver_kind a t)
          (λ k l. (omega arith, omega arith, omega arith))

  pub sheet_in_bytes : AllInBytes (sheet_calls r)
  sheet_in_bytes =
      let n = r.n in
      joined (call_each n (λ x. call learn_kind x 0)) _
      (all_of n (λ x. call learn_kind x 0 ∷ []) (λ k h. ((omega arith, omega arith, omega arith), tt)))
      (joined (hold_ticks r) _ (ticks_of r.hold_time)
      (joined (call_each n (λ x. call release_kind x 0)) _
      (all_of n (λ x. call release_kind x 0 ∷ []) (λ k h. ((omega arith, omega arith, omega arith), tt)))
      (all_of n (λ k. turn r (get_or (sheet_of r) k 0)) (λ k h. turn_of (get_or (sheet_of r) k 0) (place_most k h)))))

-- ---- the steps of a file's sheet
module _ (f m : List ℕ) (t : Tables) (z : refusal f m t ≡ 0) where
  few_routers : (planned f).n ≤ width
  few_routers =
      let few = router_count_most (routers f) (file_of_lem f m t z).routers_in in
      omega (arith, fresh_count (routers f) (hold_time New f) (step_time New f) (metrics f) (changes f))

  pub steps_fit :
      hold_time New f ≤ longest_time
      → routers f ≤ always_fit
      → length (sheet_calls (planned f)) ≤ most_steps + hold_time New f
  steps_fit =
      fresh_fits (routers f) (hold_time New f) (step_time New f) (metrics f) (changes f) (plan_passed f m t z)

  -- decoded, what is printed is a count of two bytes, and bytes that stand for the calls of the sheet
  pub steps_read :
      let calls = sheet_calls (planned f) in
      length calls ≤ most_steps
      → (unhexed (sheet_steps f m t) ≡ (length calls / 256) ∷ (length calls % 256) ∷ call_bytes calls)
      × (calls_of (call_bytes calls) ≡ calls)
  steps_read fit = (
    ap unhexed (sheet_steps_whole f m t z)
        ∙ section_read (sheet_calls (planned f)) (sheet_in_bytes (planned f) few_routers) fit,
    calls_back (sheet_calls (planned f)),
  )
