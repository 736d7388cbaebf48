-- One turn of the sheet: the router a, which comes next after those of the set s, writes what is due, finishes, and has
-- its messages delivered, and every call is answered ok. Each phase keeps a description of the record, which says why
-- its next call is answered ok.
--     Turned       between two turns: the routers of s are done and have told all, the others are ongoing with nothing
--                  written
--     Writing      a has written what is due below j
--     Telling      a is done, and its message has reached those below j
--     one_turn     a turn leads from Turned to Turned, with a among those that have had theirs
-- The heart is one message. Whom a tells waits for a in the first record. It has had no turn, since a would have had
-- one before it, and it is not a, by rank; so it is ongoing and still waits for a: the message is not ignored.
use Rattle.std.specs.Prelude.{ℕ, suc, ◌≤◌, ◌<◌, ◌≡◌, refl, Bool, true, false, not, ◌&&◌, ◌≢◌, List, [], ◌∷◌, ltb}
use Rattle.std.specs.Prelude.{length, get_or}
use Rattle.std.proofs.Common.{sym, ap, ◌∙◌, ⊎_elim, eq-or-lt_of_le, le_of_suc-le-suc, arith, lt-ltb, le-ltb}
use Rattle.std.proofs.Common.{get_or-set_same, get_or-set_other}
use Rattle.std.proofs.lemmas.Bool.{false≢true}
use Rattle.std.proofs.Math.Decide.{ℕ_discrete, dec_lt}
use Rattle.area.specs.Limits.{width}
use Rattle.area.proofs.TestLaws.{look, and_true, and_false}
use Rattle.sets.specs.Sets.{bit, added, removed}
use Rattle.sets.proofs.SetLaws.{bit_zero, no_members, at_subset}
use Rattle.sets.proofs.SetLaws.{added_self, added_other, removed_self, removed_other}
use Rattle.plan.specs.declared.Record.{Record}
use Rattle.machine.specs.Machine.{ongoing, done, write_kind, finish_kind, deliver_kind}
use Rattle.machine.specs.Machine.{state_of, waiting_of, telling_of, due_of, written_of, rank_of}
use Rattle.machine.specs.Machine.{with_state, with_waiting, with_written}
use Rattle.machine.specs.Run.{Call, call, run}
use Rattle.machine.proofs.StepLaws.{waits_none, Free}
use Rattle.machine.proofs.HeldLaws.{Held, state_held, written_held, waiting_held}
use Rattle.machine.proofs.OkLaws.{writes, finishes, delivers}
use Rattle.machine.proofs.OrderedLaws.{Ordered, sound}
use Rattle.sheet.proofs.SheetLaws.{Placed, Taken}
use Rattle.sheet.specs.Follow.{call_members, turn}
use Rattle.sheet.proofs.WentLaws.{Went, went_one, went_then, went_members}

-- ---- the descriptions, each with what every list of calls keeps
-- x waits for v at first, and v is none of s
abbrev pub left : (first : Record) (s x v : ℕ) → Bool
left first s x v = bit (waiting_of first x) v && not (bit s v)

-- what a has written with j, and whom j waits for without a
abbrev written_with : (now : Record) (a j : ℕ) → ℕ
written_with now a j = added width (written_of now a) j

abbrev waiting_without : (now : Record) (a j : ℕ) → ℕ
waiting_without now a j = removed width (waiting_of now j) a

-- the routers of s have had their turn
pub record Turned (first : Record) (s : ℕ) (now : Record) : Type 0 where
  pub held : Held first now
  pub waits : (x v : ℕ) → x < first.n → v < width → bit (waiting_of now x) v ≡ left first s x v
  pub gone : (x : ℕ) → x < first.n → bit s x ≡ true → state_of now x ≡ done
  pub here : (x : ℕ) → x < first.n → bit s x ≡ false → state_of now x ≡ ongoing
  pub clean : (x : ℕ) → x < first.n → bit s x ≡ false → written_of now x ≡ 0

-- so have they, and a has written what is due below j
pub record Writing (first : Record) (s a j : ℕ) (now : Record) : Type 0 where
  pub held : Held first now
  pub waits : (x v : ℕ) → x < first.n → v < width → bit (waiting_of now x) v ≡ left first s x v
  pub gone : (x : ℕ) → x < first.n → bit s x ≡ true → state_of now x ≡ done
  pub here : (x : ℕ) → x < first.n → bit s x ≡ false → state_of now x ≡ ongoing
  pub clean : (x : ℕ) → x < first.n → bit s x ≡ false → x ≢ a → written_of now x ≡ 0
  pub own : (d : ℕ) → d < width → bit (written_of now a) d ≡ (bit (due_of first a) d && ltb d j)

-- a is done too, and its message has reached those below j
pub record Telling (first : Record) (s a j : ℕ) (now : Record) : Type 0 where
  pub held : Held first now
  pub told : (x v : ℕ) → x < j → x < first.n → v < width
      → bit (waiting_of now x) v ≡ left first (added width s a) x v
  pub untold : (x v : ℕ) → j ≤ x → x < first.n → v < width → bit (waiting_of now x) v ≡ left first s x v
  pub gone : (x : ℕ) → x < first.n → bit s x ≡ true → state_of now x ≡ done
  pub finished : state_of now a ≡ done
  pub here : (x : ℕ) → x < first.n → bit s x ≡ false → x ≢ a → state_of now x ≡ ongoing
  pub clean : (x : ℕ) → x < first.n → bit s x ≡ false → x ≢ a → written_of now x ≡ 0

module _ {first : Record} (o : Ordered first) where
  abbrev n : ℕ
  n = first.n

  abbrev w : (x : ℕ) → ℕ
  w x = waiting_of first x

  wide : {x : ℕ} → x < n → x < width
  wide h = omega (arith, o.most)

  inside : {now : Record} {x : ℕ} → Held first now → x < n → x < now.n
  inside k h = omega (arith, k.count)

  -- ---- the turn of a, which comes next after the routers of s
  module _ {k s a : ℕ} (before : Placed n w k s) (t : Taken n w s a) where
    a_wide : a < width
    a_wide = wide t.router

    -- a waits for none any more
    free :
        (now : Record) → Held first now
        → ((v : ℕ) → v < width → bit (waiting_of now a) v ≡ left first s a v)
        → Free now a
    free now h f = waits_none (no_members (waiting_of now a) none)
      where
        none : (v : ℕ) → bit (waiting_of now a) v ≡ true → ⊥
        none v e =
            let waited = h.waits a v e in
            let none_left : left first s a v ≡ false = rw (waited, t.after v waited) refl in
            false≢true (sym none_left ∙ sym (f v (wide (o.inside a v t.router waited))) ∙ e)

    due_still : (now : Record) (d : ℕ) → Held first now → bit (due_of now a) d ≡ bit (due_of first a) d
    due_still now d h = ap (λ (l : List ℕ). bit (get_or l a 0) d) h.due

    -- ---- its writes
    starts : (now : Record) → Turned first s now → Writing first s a 0 now
    starts now p = record {
      held = p.held;
      waits = p.waits;
      gone = p.gone;
      here = p.here;
      clean = λ x h e f. p.clean x h e;
      own = λ d h.
          ap (λ (y : ℕ). bit y d) (p.clean a t.router t.new)
          ∙ bit_zero d
          ∙ sym (and_false (bit (due_of first a) d) (ltb d 0) (le-ltb d 0 (omega arith)));
    }

    -- but for j itself, below j + 1 is below j
    below_next :
        (d j : ℕ) → d ≢ j
        → (bit (due_of first a) d && ltb d j) ≡ (bit (due_of first a) d && ltb d (suc j))
    below_next d j f = ap (λ (b : Bool). bit (due_of first a) d && b) same
      where
        same : ltb d j ≡ ltb d (suc j)
        same = elim (dec_lt d j) [
          | yes h ↦ lt-ltb d j h ∙ sym (lt-ltb d (suc j) (omega arith))
          | no g ↦ le-ltb d j (omega arith) ∙ sym (le-ltb d (suc j) (omega arith))
        ]

    one_write :
        (j : ℕ) (now : Record) → j < n → Writing first s a j now → bit (due_of first a) j ≡ true
        → Went (Writing first s a (suc j)) now (call write_kind a j ∷ [])
    one_write j now h p e =
        went_one write_kind a j (with_written now a (written_with now a j))
        (writes now (sound o p.held) a (inside p.held t.router) j (inside p.held h)
        (p.here a t.router t.new) (free now p.held (λ v. p.waits a v t.router)) due_now unwritten)
        (record {
          held = written_held p.held a j due_now;
          waits = p.waits;
          gone = p.gone;
          here = p.here;
          clean = λ x l b f. get_or-set_other now.written a x (written_with now a j) 0 f ∙ p.clean x l b f;
          own = λ d l. ap (λ (y : ℕ). bit y d) written ∙ by_place d l (ℕ_discrete d j);
        })
      where
        due_now : bit (due_of now a) j ≡ true
        due_now = due_still now j p.held ∙ e

        unwritten : bit (written_of now a) j ≡ false
        unwritten = p.own j (wide h) ∙ and_false (bit (due_of first a) j) (ltb j j) (le-ltb j j (omega arith))

        written : written_of (with_written now a (written_with now a j)) a ≡ written_with now a j
        written =
            get_or-set_same now.written a (written_with now a j) 0 (omega (arith, p.held.written_size, a_wide))

        by_place :
            (d : ℕ) → d < width → Dec (d ≡ j)
            → bit (written_with now a j) d ≡ (bit (due_of first a) d && ltb d (suc j))
        by_place d l (yes q) =
            rw q
            (added_self width (written_of now a) j (wide h)
            ∙ sym (and_true (bit (due_of first a) j) (ltb j (suc j)) e (lt-ltb j (suc j) (omega arith))))
        by_place d l (no f) = added_other width (written_of now a) j d l f ∙ p.own d l ∙ below_next d j f

    no_write :
        (j : ℕ) (now : Record) → j < n → Writing first s a j now → bit (due_of first a) j ≡ false
        → Writing first s a (suc j) now
    no_write j now h p e = record {
      held = p.held;
      waits = p.waits;
      gone = p.gone;
      here = p.here;
      clean = p.clean;
      own = λ d l. p.own d l ∙ by_place d (ℕ_discrete d j);
    }
      where
        by_place :
            (d : ℕ) → Dec (d ≡ j)
            → (bit (due_of first a) d && ltb d j) ≡ (bit (due_of first a) d && ltb d (suc j))
        by_place d (yes q) = rw (q, e) refl
        by_place d (no f) = below_next d j f

    -- ---- it finishes: all that is due is a router, so all of it is written
    finish_now :
        (now : Record) → Writing first s a n now
        → Went (Telling first s a 0) now (call finish_kind a 0 ∷ [])
    finish_now now p =
        went_one finish_kind a 0 (with_state now a done)
        (finishes now (sound o p.held) a (inside p.held t.router) (p.here a t.router t.new)
        (free now p.held (λ v. p.waits a v t.router))
        (at_subset width (due_of now a) (written_of now a) written))
        (record {
          held = state_held p.held a done (omega arith);
          told = λ x v l. absurd (let z : ⊥ = omega arith in z);
          untold = λ x v l. p.waits x v;
          gone = λ x l e. other x (not_a x e) ∙ p.gone x l e;
          finished = get_or-set_same now.states a done 0 (omega (arith, p.held.states_size, a_wide));
          here = λ x l e f. other x f ∙ p.here x l e;
          clean = λ x l e f. p.clean x l e f;
        })
      where
        written : (d : ℕ) → d < width → bit (due_of now a) d ≡ true → bit (written_of now a) d ≡ true
        written d l e =
            let due = sym (due_still now d p.held) ∙ e in
            p.own d l ∙ and_true (bit (due_of first a) d) (ltb d n) due (lt-ltb d n (o.due a d t.router due))

        other : (x : ℕ) → x ≢ a → state_of (with_state now a done) x ≡ state_of now x
        other x f = get_or-set_other now.states a x done 0 f

        not_a : (x : ℕ) → bit s x ≡ true → x ≢ a
        not_a x e q = false≢true (sym t.new ∙ ap (bit s) (sym q) ∙ e)

    -- ---- its messages
    -- a makes no difference to a router that does not wait for it, and no other does
    same_left :
        (j v : ℕ) → v < width → (v ≡ a → bit (w j) v ≡ false)
        → left first s j v ≡ left first (added width s a) j v
    same_left j v l f = elim (ℕ_discrete v a) [
      | yes q ↦ rw (f q) refl
      | no g ↦ ap (λ (b : Bool). bit (w j) v && not b) (sym (added_other width s a v l g))
    ]

    one_message :
        (j : ℕ) (now : Record) → j < n → Telling first s a j now → bit (telling_of first a) j ≡ true
        → Went (Telling first s a (suc j)) now (call deliver_kind a j ∷ [])
    one_message j now h p e =
        went_one deliver_kind a j (with_waiting now j (waiting_without now a j))
        (delivers now (sound o p.held) a (inside p.held t.router) j (inside p.held h)
        p.finished tells (p.here j h new not_a) still_waits)
        (record {
          held = waiting_held p.held a j;
          told = λ x v l b c. ⊎_elim (now_told x v c) (told_before x v b c) (eq-or-lt_of_le (le_of_suc-le-suc l));
          untold = λ x v l b c. other x v (λ q. omega arith) ∙ p.untold x v (omega arith) b c;
          gone = p.gone;
          finished = p.finished;
          here = p.here;
          clean = p.clean;
        })
      where
        waits_for_lem : bit (w j) a ≡ true
        waits_for_lem = o.waits a j t.router e

        tells : bit (telling_of now a) j ≡ true
        tells = ap (λ (l : List ℕ). bit (get_or l a 0) j) p.held.telling ∙ e

        -- j is not a, since a ranks below it
        not_a : j ≢ a
        not_a q = omega (arith, o.below j a h waits_for_lem, ap (rank_of first) q)

        -- and has had no turn, since a would have had one before
        new : bit s j ≡ false
        new =
            ⊎_elim (λ b. absurd (false≢true (sym t.new ∙ before.closed j a b waits_for_lem))) (λ f. f)
            (look (bit s j))

        still_waits : bit (waiting_of now j) a ≡ true
        still_waits = p.untold j a (omega arith) h a_wide ∙ rw (waits_for_lem, t.new) refl

        other :
            (x v : ℕ) → x ≢ j
            → bit (waiting_of (with_waiting now j (waiting_without now a j)) x) v ≡ bit (waiting_of now x) v
        other x v f =
            ap (λ (y : ℕ). bit y v) (get_or-set_other now.waiting j x (waiting_without now a j) 0 f)

        struck : (v : ℕ) → v < width → bit (waiting_without now a j) v ≡ left first (added width s a) j v
        struck v c = elim (ℕ_discrete v a) [
          | yes q ↦ rw q (removed_self width (waiting_of now j) a a_wide
              ∙ sym (and_false (bit (w j) a) (not (bit (added width s a) a)) (rw (added_self width s a a_wide) refl)))
          | no g ↦
              removed_other width (waiting_of now j) a v c g
              ∙ p.untold j v (omega arith) h c
              ∙ same_left j v c (λ q. absurd (g q))
        ]

        now_told :
            (x v : ℕ) → v < width → x ≡ j
            → bit (waiting_of (with_waiting now j (waiting_without now a j)) x) v ≡ left first (added width s a) x v
        now_told x v c q =
            let room : j < length now.waiting = omega (arith, p.held.waiting_size, wide h) in
            rw q
            (ap (λ (y : ℕ). bit y v) (get_or-set_same now.waiting j (waiting_without now a j) 0 room)
            ∙ struck v c)

        told_before :
            (x v : ℕ) → x < n → v < width → x < j
            → bit (waiting_of (with_waiting now j (waiting_without now a j)) x) v ≡ left first (added width s a) x v
        told_before x v b c d = other x v (λ q. omega arith) ∙ p.told x v d b c

    no_message :
        (j : ℕ) (now : Record) → j < n → Telling first s a j now → bit (telling_of first a) j ≡ false
        → Telling first s a (suc j) now
    no_message j now h p e = record {
      held = p.held;
      told = λ x v l b c.
          ⊎_elim (now_told x v c) (λ d. p.told x v d b c) (eq-or-lt_of_le (le_of_suc-le-suc l));
      untold = λ x v l. p.untold x v (omega arith);
      gone = p.gone;
      finished = p.finished;
      here = p.here;
      clean = p.clean;
    }
      where
        silent : bit (w j) a ≡ false
        silent = ⊎_elim (λ b. absurd (false≢true (sym e ∙ o.told j a h b))) (λ f. f) (look (bit (w j) a))

        now_told :
            (x v : ℕ) → v < width → x ≡ j
            → bit (waiting_of now x) v ≡ left first (added width s a) x v
        now_told x v c q =
            rw q (p.untold j v (omega arith) h c ∙ same_left j v c (λ (r : v ≡ a). rw r silent))

    -- ---- the turn is over
    ends : (now : Record) → Telling first s a n now → Turned first (added width s a) now
    ends now p = record {
      held = p.held;
      waits = λ x v h l. p.told x v h h l;
      gone = λ x h e. by_place x h e (ℕ_discrete x a);
      here = λ x h e. p.here x h (old x h e) (not_a x e);
      clean = λ x h e. p.clean x h (old x h e) (not_a x e);
    }
      where
        by_place : (x : ℕ) → x < n → bit (added width s a) x ≡ true → Dec (x ≡ a) → state_of now x ≡ done
        by_place x h e (yes q) = rw q p.finished
        by_place x h e (no f) = p.gone x h (sym (added_other width s a x (wide h) f) ∙ e)

        not_a : (x : ℕ) → bit (added width s a) x ≡ false → x ≢ a
        not_a x e q = false≢true (sym e ∙ ap (bit (added width s a)) q ∙ added_self width s a a_wide)

        old : (x : ℕ) → x < n → bit (added width s a) x ≡ false → bit s x ≡ false
        old x h e = sym (added_other width s a x (wide h) (not_a x e)) ∙ e

    pub one_turn : (now : Record) → Turned first s now → Went (Turned first (added width s a)) now (turn first a)
    one_turn now p =
        went_then (call_members n (due_of first a) (λ d. call write_kind a d)) _ writing
        (λ wrote q. went_then (call finish_kind a 0 ∷ []) _ (finish_now wrote q) telling)
      where
        writing : Went (Writing first s a n) now (call_members n (due_of first a) (λ d. call write_kind a d))
        writing =
            went_members (Writing first s a) n (due_of first a) (λ d. call write_kind a d) one_write no_write now
            (starts now p)

        telling :
            (now : Record) → Telling first s a 0 now
            → Went (Turned first (added width s a)) now
            (call_members n (telling_of first a) (λ x. call deliver_kind a x))
        telling now q =
            let messages : ℕ → Call = λ x. call deliver_kind a x in
            let z = went_members (Telling first s a) n (telling_of first a) messages one_message no_message now q in
            let last = run now (call_members n (telling_of first a) messages) in
            record { all_ok = z.all_ok; reached = ends last z.reached }
