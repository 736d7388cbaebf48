-- The one invariant of No. 8: a call that is answered ok takes one off what is missing, and a tick or any other call
-- nothing. A call sets one entry of one table (machine's MoveLaws.antt), so one term of one of the three sums is less
-- by one; a tick sets the clock alone.
--     oks_none, oks_next                               no call, and one call more
--     state_counts, write_counts, message_counts       the three ways
--     move_counts, run_counts                          one call, and every list of calls
--     fresh_missing                                    at first all that the change needs is missing
--     none_missing, missing_done, missing_heard        in the end nothing is, and only then
use Rattle.std.specs.Prelude.{ℕ, suc, ◌+◌, ◌*◌, ◌-◌, ◌≤◌, ◌<◌, ◌≡◌, refl, true, false, not, ◌&&◌, List, [], ◌∷◌, length}
use Rattle.std.specs.Prelude.{get_or, set}
use Rattle.std.proofs.Common.{sym, ap, ◌∙◌, arith, get_or-set_same, get_or-set_other}
use Rattle.area.specs.Limits.{width}
use Rattle.area.proofs.TestLaws.{and_true, and_false}
use Rattle.sets.specs.Sets.{num, bit, added, removed, without}
use Rattle.sets.proofs.SetLaws.{no_members, bit_without, without_none, without_added}
use Rattle.sets.specs.Counts.{total, size}
use Rattle.sets.proofs.CountLaws.{total_same, total_more, total_full, total_term, size_none, size_without, size_removed}
use Rattle.plan.specs.declared.Record.{Record}
use Rattle.machine.specs.Answers.{Outcome}
use Rattle.machine.specs.Machine.{holding, ongoing, done, state_of, waiting_of, due_of, written_of}
use Rattle.machine.specs.Run.{Call, step, run, is_ok}
use Rattle.machine.proofs.MoveLaws.{Router, MayWrite, MayDeliver, moves}
use Rattle.machine.proofs.MoveLaws.{Move, stays, learned, released, wrote, finished, delivered, ticked}
use Rattle.machine.proofs.RunLaws.{Start, Kept}
use Rattle.machine.proofs.HeldLaws.{Held, move_held}
use Rattle.machine.proofs.OrderedLaws.{Ordered}
use Rattle.needs.specs.Needs.{is_counted, oks, sizes, needs, unwritten_of, missing, AllDone, AllHeard}

-- ---- no call, and one call more
pub oks_none : (r : Record) → oks r [] ≡ 0
unfolding oks
oks_none r = refl

pub oks_next :
    (r : Record) (c : Call) (calls : List Call)
    → oks r (c ∷ calls) ≡ num (is_counted c.kind && is_ok (step r c).reply) + oks (step r c).next calls
unfolding oks
oks_next r c calls = refl

-- ---- one entry of a table is set, and its term of a sum is one less
module _ (n : ℕ) (t : List ℕ) (a v : ℕ) (f : ℕ → ℕ → ℕ) (inside : a < n) (size : n ≤ length t) where
  -- f x s is the term of router x, whose entry is s
  one_less :
      f a (get_or t a 0) ≡ f a v + 1
      → total n (λ x. f x (get_or t x 0)) ≡ total n (λ x. f x (get_or (set t a v) x 0)) + 1
  one_less e =
      total_more n (λ x. f x (get_or (set t a v) x 0)) (λ x. f x (get_or t x 0)) a 1 inside
      (λ k h d. sym (ap (f k) (get_or-set_other t a k v 0 d)))
      (e ∙ ap (λ (s : ℕ). f a s + 1) (sym (get_or-set_same t a v 0 (omega arith))))

module _ {first r : Record} (held : Held first r) where
  room : {a s : ℕ} → Router r a s → (t : List ℕ) → length t ≡ width → r.n ≤ length t
  room at t e = omega (arith, at.most)

  -- a router goes on to its next state
  state_counts :
      (a s : ℕ) → Router r a s → s < done
      → total r.n (λ x. done - state_of r x)
      ≡ total r.n (λ x. done - get_or (set r.states a (s + 1)) x 0) + 1
  state_counts a s at low =
      one_less r.n r.states a (s + 1) (λ x v. done - v) at.inside (room at r.states held.states_size)
      (omega (arith, at.state))

  -- a destination is written
  write_counts :
      (a b : ℕ) → Router r a ongoing → MayWrite r a b
      → total r.n (λ x. size width (unwritten_of r x))
      ≡ total r.n (λ x. size width (without width (due_of r x)
      (get_or (set r.written a (added width (written_of r a) b)) x 0))) + 1
  write_counts a b at may =
      one_less r.n r.written a (added width (written_of r a) b)
      (λ x v. size width (without width (due_of r x) v)) at.inside (room at r.written held.written_size)
      (omega (arith, less, ap (size width) (without_added width (due_of r a) (written_of r a) b)))
    where
      wide : b < width
      wide = omega (arith, may.inside, at.most)

      unwritten : bit (unwritten_of r a) b ≡ true
      unwritten =
          bit_without width (due_of r a) (written_of r a) b wide
          ∙ and_true (bit (due_of r a) b) (not (bit (written_of r a) b)) may.due (ap not may.new)

      less : size width (unwritten_of r a) ≡ suc (size width (removed width (unwritten_of r a) b))
      less = size_removed width (unwritten_of r a) b wide unwritten

  -- a message arrives
  message_counts :
      (a b : ℕ) → Router r a done → MayDeliver r a b
      → sizes r.n r.waiting ≡ sizes r.n (set r.waiting b (removed width (waiting_of r b) a)) + 1
  message_counts a b at may =
      one_less r.n r.waiting b (removed width (waiting_of r b) a) (λ x v. size width v) may.inside
      (room at r.waiting held.waiting_size)
      (omega (arith, size_removed width (waiting_of r b) a (omega (arith, at.inside, at.most)) may.waits))

-- ---- one call, and a list of calls
move_counts :
    {first r : Record} {kind a b : ℕ} {o : Outcome}
    → Held first r
    → Move r kind a b o
    → num (is_counted kind && is_ok o.reply) + missing o.next ≡ missing r
unfolding missing
move_counts {kind = kind} held (stays e f) = rw (f, and_false (is_counted kind) false refl, e) (omega arith)
move_counts {a = a} held (learned k at e) = rw (k, e) (omega (arith, state_counts held a 0 at (omega arith)))
move_counts {a = a} held (released k at past e) =
    rw (k, e) (omega (arith, state_counts held a holding at (omega arith)))
move_counts {a = a} {b} held (wrote k at may e) = rw (k, e) (omega (arith, write_counts held a b at may))
move_counts {a = a} held (finished k at may e) =
    rw (k, e) (omega (arith, state_counts held a ongoing at (omega arith)))
move_counts {a = a} {b} held (delivered k at may e) = rw (k, e) (omega (arith, message_counts held a b at may))
move_counts held (ticked k on e) = rw (k, e) (omega arith)

pub run_counts :
    {first r : Record} (calls : List Call)
    → Held first r
    → oks r calls + missing (run r calls) ≡ missing r
unfolding oks run
run_counts [] held = omega arith
run_counts {r = r} (c ∷ cs) held =
    let m = moves r c.kind c.a c.b in
    omega (arith, move_counts held m, run_counts {r = (step r c).next} cs (move_held held m))

-- ---- the first record, and the last
pub fresh_missing : (first : Record) → Start first → missing first ≡ needs first
unfolding missing needs
fresh_missing first start = omega (arith, states, unwritten)
  where
    states : total first.n (λ x. done - state_of first x) ≡ 3 * first.n
    states = total_full 3 (λ x. done - state_of first x) first.n (λ x h. omega (arith, start.state x))

    unwritten : total first.n (λ x. size width (unwritten_of first x)) ≡ sizes first.n first.due
    unwritten =
        total_same first.n (λ x. size width (unwritten_of first x)) (λ x. size width (due_of first x))
        (λ x h. rw (start.written x) (size_without width (due_of first x)))

pub none_missing : {first now : Record} → Kept first now → AllDone now → AllHeard now → missing now ≡ 0
unfolding missing
none_missing {now = now} kept all heard = omega (arith, states, unwritten, waiting)
  where
    states : total now.n (λ x. done - state_of now x) ≡ 0 * now.n
    states = total_full 0 (λ x. done - state_of now x) now.n (λ x h. omega (arith, all x h))

    unwritten : total now.n (λ x. size width (unwritten_of now x)) ≡ 0 * now.n
    unwritten =
        total_full 0 (λ x. size width (unwritten_of now x)) now.n
        (λ x h. ap (size width) (none x (all x h)) ∙ size_none width)
      where
        none : (x : ℕ) → state_of now x ≡ done → unwritten_of now x ≡ 0
        none x e = without_none width (due_of now x) (written_of now x) (λ d l. kept.done_wrote x d l e)

    waiting : sizes now.n now.waiting ≡ 0 * now.n
    waiting =
        total_full 0 (λ x. size width (waiting_of now x)) now.n
        (λ x h. ap (size width) (heard x h) ∙ size_none width)

module _ {first now : Record} (o : Ordered first) (held : Held first now) (e : missing now ≡ 0) where
  pub missing_done : AllDone now
  unfolding missing
  missing_done x h = omega (arith, total_term now.n (λ y. done - state_of now y) x h, held.known x, e)

  -- a member of a waiting set would be one more
  pub missing_heard : AllHeard now
  unfolding missing
  missing_heard x h = no_members (waiting_of now x) no_member
    where
      none : size width (waiting_of now x) ≡ 0
      none = omega (arith, total_term now.n (λ y. size width (waiting_of now y)) x h, e)

      wide : (w : ℕ) → bit (waiting_of now x) w ≡ true → w < width
      wide w t = omega (arith, o.inside x w (omega (arith, held.count)) (held.waits x w t), o.most)

      no_member : (w : ℕ) → bit (waiting_of now x) w ≡ true → ⊥
      no_member w t = omega (arith, none, size_removed width (waiting_of now x) w (wide w t) t)
