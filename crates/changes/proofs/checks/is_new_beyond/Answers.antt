-- The changes before e are tried in turn.
use Rattle.std.proofs.Common.{◌≡◌, refl, sym, ap₂, ◌∙◌, ℕ, ◌+◌, ◌<◌, Bool, true, false, List, length, MatchBool}
use Rattle.std.proofs.Common.{arith, rules, tests}
use Rattle.std.specs.List.{HoldsAt, AllWithin, range_with_len}
use Rattle.std.proofs.lemmas.Iterator.{cases_from_all, YieldsList-from_range}
use Rattle.std.proofs.lemmas.List.FromFn.{length-range_with_len, get_or-range_with_len}
use Rattle.entries.specs.Entries.{is_for_pair, is_free}
use Rattle.entries.proofs.EntryLaws.{read_from, read_to, free_true, free_false}
use Rattle.changes.proofs.checks.is_new_beyond.Goals as goal

tried :
    (l : List ℕ) (e i j : ℕ) (r : Bool)
    → (let before = range_with_len 0 e in
    MatchBool r (AllWithin (λ d. is_for_pair l d i j ≡ false) before 0 (length before))
    ((k : ℕ) × (k < length before) × HoldsAt (λ d. is_for_pair l d i j ≡ true) before k))
    → r ≡ is_free l e i j
tried l e i j true h = sym (free_true l e i j (λ d b. other d b))
  where
    other : (d : ℕ) → d < e → is_for_pair l d i j ≡ false
    other d b =
        let place : 0 + d ≡ d = omega arith in
        rw (get_or-range_with_len 0 e d 0 b, place) at (h d 0 (omega arith) (rw length-range_with_len b))
tried l e i j false h =
    let b : h.0 < e = rw length-range_with_len at h.1 in
    let place : 0 + h.0 ≡ h.0 = omega arith in
    sym (free_false l e i j h.0 b (rw (get_or-range_with_len 0 e h.0 0 b, place) at (h.2 0)))

pub returns : goal.returns
returns c =
    let l = c.args.list.now in
    let e = c.args.e in
    let x = c.args.change in
    tried l e x.from x.to c.all.result
    (cases_from_all _ _ _ (λ d. is_for_pair l d x.from x.to ≡ false) (λ d. is_for_pair l d x.from x.to ≡ true)
    c.all.ensures.ran (YieldsList-from_range 0 e e refl (omega arith))
    (λ d q k. search (rules, tests)) (λ d q k. search (rules, tests)))
    ∙ ap₂ (is_free l e) (read_from c.requires) (read_to c.requires)
