-- A loop over the lists, one turn for each: the list that is lent is list i. Its length stands at the place p, and says
-- s.
--     list_judged                  what is found of its entries is the refusal of list i
--     here, turn_refused, turn_passed
--                                  v was found of them: the answer, or the list passes
--     few, passed, list_there      lists that are not refused: n fits, and each of them is all there
--     part, same, list_known       list i as it is lent, where the identities of all entries are in the table
use Rattle.std.specs.Prelude.{ℕ, ◌+◌, ◌-◌, ◌≤◌, ◌<◌, ◌≡◌, Bool, true, false, not, ◌≢◌, List, eqb, length, take, drop}
use Rattle.std.specs.Prelude.{Result}
use Rattle.std.proofs.Common.{sym, ap, ◌∙◌, arith}
use Rattle.std.proofs.Math.Path.{ap₂}
use Rattle.std.proofs.Math.Decide.{dec_lt}
use borrow.Author.Tests.{eqb-true, eqb-false, not-true, not-false}
use Rattle.area.specs.Bytes.{two}
use Rattle.area.specs.Limits.{width}
use Rattle.area.specs.Refusals.{verdict_number}
use Rattle.area.specs.declared.refusal.Refusal.{Refusal}
use Rattle.area.proofs.SizeLaws.{router_count_most}
use Rattle.tlv.specs.Items.{items}
use Rattle.isis.specs.Lists.{items_refusal, length_at, list_of, list_refusal}
use Rattle.isis.proofs.ListLaws.{list_cut, list_whole}
use Rattle.isis.specs.Isis.{lists_refusal, area_refusal}
use Rattle.isis.proofs.IsisLaws.{lists_first, lists_none, count_in, accepted_both}
use Rattle.isis.proofs.PlaceLaws.{AllKnown, all_known}

-- ---- a list, as it is lent: its length stands at p and says s
module _
    (t d : List ℕ) (i p s : ℕ)
    (is : p ≡ length_at d i) (size : s ≡ two d p) (whole : 2 + s ≤ length d - p)
  where
    pub list_judged :
        (v : ℕ)
        → v ≡ items_refusal t i (items (take (p + 2 + s - (p + 2)) (drop (p + 2) d)))
        → v ≡ list_refusal t d i
    list_judged v e =
        let k : p + 2 + s - (p + 2) ≡ two d p = omega arith in
        e
        ∙ ap (λ (x : ℕ). items_refusal t i (items (take x (drop (p + 2) d)))) k
        ∙ sym (list_whole t d i p is (omega arith))

-- ---- one turn of the loop: v is what was found of list i, and ok whether that is accepted
module _
    (t d : List ℕ) (i p s : ℕ)
    (is : p ≡ length_at d i) (size : s ≡ two d p) (whole : 2 + s ≤ length d - p)
    (v : Result (Unit {0}) Refusal)
    (told : verdict_number v ≡ items_refusal t i (items (take (p + 2 + s - (p + 2)) (drop (p + 2) d))))
    (ok : Bool) (good : ok ≡ eqb (verdict_number v) 0)
  where
    pub here : verdict_number v ≡ list_refusal t d i
    here = list_judged t d i p s is size whole (verdict_number v) told

    pub turn_refused :
        not ok ≡ true
        → (n : ℕ)
        → i < n
        → ((k : ℕ) → k < i → list_refusal t d k ≡ 0)
        → verdict_number v ≡ lists_refusal n t d
    turn_refused f n h before =
        let bad = eqb-false (verdict_number v) 0 (sym good ∙ not-true ok f) in
        here ∙ lists_first n t d i h before (λ z. bad (here ∙ z))

    pub turn_passed : not ok ≡ false → list_refusal t d i ≡ 0
    turn_passed f = sym here ∙ eqb-true (verdict_number v) 0 (sym good ∙ not-false ok f)

-- ---- lists that are not refused
module _ (n : ℕ) (t d : List ℕ) (z : area_refusal n t d ≡ 0) where
  pub few : n ≤ width
  few = router_count_most n (count_in n t d z)

  -- the length of list i stands at p
  module _ (i p : ℕ) (h : i < n) (is : p ≡ length_at d i) where
    pub passed : list_refusal t d i ≡ 0
    passed = lists_none n t d (accepted_both n t d z).1 i h

    pub list_there : p + 2 + two d p ≤ length d
    list_there = elim (dec_lt (length d) (p + 2 + two d p)) [
      | yes cut ↦ absurd (let x : ⊥ = omega (arith, list_cut t d i p is cut, passed) in x)
      | no whole ↦ omega arith
    ]

    -- s is that length, and `part` the list as it is lent
    module _ (s : ℕ) (size : s ≡ two d p) where
      abbrev pub part : List ℕ
      part = take (p + 2 + s - (p + 2)) (drop (p + 2) d)

      pub same : part ≡ list_of d i
      same =
          let long : p + 2 + s - (p + 2) ≡ two d (length_at d i) = omega (arith, size, ap (two d) is) in
          ap₂ (λ (k q : ℕ). take k (drop (q + 2) d)) long is

      pub list_known : AllKnown t (items part)
      list_known =
          let long : p + 2 + s - (p + 2) ≡ two d p = omega (arith, size) in
          all_known t i (items part)
          (ap (λ (k : ℕ). items_refusal t i (items (take k (drop (p + 2) d)))) long
          ∙ sym (list_whole t d i p is list_there)
          ∙ passed)
