-- Laws of the answer and of the metric table: those by which the code is proved.
--     lists_first, lists_trailing, lists_pass  the refusals of the lists, one for each way in which the code returns
--     lists_none                               what is known of lists that are not refused
--     area-.., isis-.., metrics-..             the same of the whole
--     count_none, count_cut, count_more        how many lists there are, by the first of them
use Prim.Native.Nat.{ℕ, zero, suc, ◌+◌, ◌*◌, ◌≤◌, ◌<◌}
use Rattle.std.specs.Prelude.{◌≡◌, true, false, ◌≢◌, List, ltb, length, get_or, drop, Result, Ok, Err, IfOk}
use Rattle.std.specs.Result.{is_err}
use Rattle.std.proofs.Math.Path.{refl, sym, ap}
use Rattle.std.proofs.Common.{◌∙◌, arith}
use Rattle.std.proofs.Math.Logic.{⊎_elim}
use Rattle.std.proofs.Common.{length-drop, get_or-drop}
use Rattle.std.proofs.Math.Decide.{dec_lt}
use Rattle.std.proofs.lemmas.Bool.{false≢true}
use borrow.Author.Tests.{lt-ltb, le-ltb, eq-eqb, ne_eqb}
use Rattle.area.specs.Bytes.{two}
use Rattle.area.specs.Limits.{width, unused}
use Rattle.area.specs.Refusals.{refusal_number, verdict_number, trailing, router_count, table_size}
use Rattle.area.specs.declared.refusal.Refusal.{Refusal}
use Rattle.area.proofs.RefusalLaws.{refusal_positive}
use Rattle.area.specs.Tests.{pick, or_then, first}
use Rattle.area.proofs.TestLaws.{look, then_some, then_none, then_both, first_none, first_fault, none_first}
use Rattle.area.specs.Sizes.{is_router_count}
use Rattle.area.proofs.SizeLaws.{router_count_true, router_count_low, router_count_high}
use Rattle.area.proofs.SizeLaws.{router_count_some, router_count_most, table_true, table_false}
use Rattle.area.specs.Tables.{build, tabulate}
use Rattle.isis.specs.Identities.{rows_refusal}
use Rattle.isis.proofs.IdentityLaws.{rows_in}
use Rattle.isis.specs.Lists.{length_at, list_refusal, count_from, list_count}
use Rattle.isis.specs.Isis.{lists_refusal, area_refusal, isis_refusal, listed, no_links, isis_metrics}

-- ---- the n lists
module _ (n : ℕ) (t d : List ℕ) where
  pub lists_first :
      (i : ℕ)
      → i < n
      → ((k : ℕ) → k < i → list_refusal t d k ≡ 0)
      → list_refusal t d i ≢ 0
      → list_refusal t d i ≡ lists_refusal n t d
  unfolding lists_refusal
  lists_first i h before bad =
      let found = first_fault (list_refusal t d) i n h before bad in
      sym (then_some (first n (list_refusal t d)) _ (λ z. bad (sym found ∙ z)) ∙ found)

  module _ (all : (k : ℕ) → k < n → list_refusal t d k ≡ 0) where
    after_all : lists_refusal n t d ≡ pick (ltb (length_at d n) (length d)) trailing 0
    unfolding lists_refusal
    after_all = then_none (first n (list_refusal t d)) _ (first_none (list_refusal t d) n all)

    pub lists_trailing : length_at d n < length d → trailing ≡ lists_refusal n t d
    lists_trailing h = sym (after_all ∙ rw (lt-ltb (length_at d n) (length d) h) refl)

    pub lists_pass : length d ≤ length_at d n → 0 ≡ lists_refusal n t d
    lists_pass h = sym (after_all ∙ rw (le-ltb (length_at d n) (length d) h) refl)

  pub lists_none : lists_refusal n t d ≡ 0 → (k : ℕ) → k < n → list_refusal t d k ≡ 0
  unfolding lists_refusal
  lists_none z = none_first (list_refusal t d) n (then_both (first n (list_refusal t d)) _ z).0

-- ---- how many lists there are
module _ (d : List ℕ) where
  enough : (h k p : ℕ) → length d ≤ p + h → length d ≤ p + k → count_from d h p ≡ count_from d k p
  unfolding count_from
  enough zero zero p a b = refl
  enough zero (suc k) p a b = rw (le-ltb p (length d) (omega arith)) refl
  enough (suc h) zero p a b = rw (le-ltb p (length d) (omega arith)) refl
  enough (suc h) (suc k) p a b =
      ap (λ (x : ℕ). pick (ltb p (length d)) (suc x) 0)
      (enough h k (p + 2 + two d p) (omega arith) (omega arith))

  past : (h p : ℕ) → length d ≤ p → count_from d h p ≡ 0
  unfolding count_from
  past zero p a = refl
  past (suc h) p a = rw (le-ltb p (length d) a) refl

  -- the lists behind the first q bytes
  behind : (q : ℕ) → q ≤ length d → (h p : ℕ) → count_from (drop q d) h p ≡ count_from d h (q + p)
  unfolding count_from
  behind q a zero p = refl
  behind q a (suc h) p = elim (dec_lt p (length (drop q d))) [
    | yes l ↦
        rw (
          lt-ltb p (length (drop q d)) l,
          lt-ltb (q + p) (length d) (omega (arith, l, length-drop q d)),
        )
        (ap suc (behind q a h (p + 2 + two (drop q d) p) ∙ ap (count_from d h) (omega (arith, same p))))
    | no f ↦
        rw (
          le-ltb p (length (drop q d)) (omega (arith, f)),
          le-ltb (q + p) (length d) (omega (arith, f, length-drop q d, a)),
        )
        refl
  ]
    where
      same : (p : ℕ) → two (drop q d) p ≡ two d (q + p)
      same p =
          omega (
            arith,
            get_or-drop q d p 0,
            get_or-drop q d (p + 1) 0,
            ap (λ (k : ℕ). get_or d k 0) (let x : q + (p + 1) ≡ q + p + 1 = omega arith in x),
          )

  pub count_none : length d ≡ 0 → list_count d ≡ 0
  unfolding list_count
  count_none e = past (length d) 0 (omega arith)

  module _ (some : 0 < length d) where
    opened : list_count d ≡ suc (count_from d (length d) (2 + two d 0))
    unfolding list_count count_from
    opened =
        enough (length d) (suc (length d)) 0 (omega arith) (omega arith)
        ∙ rw (lt-ltb 0 (length d) some) refl

    pub count_cut : length d < 2 + two d 0 → list_count d ≡ 1
    count_cut h = opened ∙ ap suc (past (length d) (2 + two d 0) (omega arith))

    pub count_more : 2 + two d 0 ≤ length d → list_count d ≡ suc (list_count (drop (2 + two d 0) d))
    unfolding list_count
    count_more h =
        opened
        ∙ ap suc (
        enough (length d) (length (drop (2 + two d 0) d)) (2 + two d 0) (omega arith)
        (omega (arith, length-drop (2 + two d 0) d))
        ∙ ap (count_from d (length (drop (2 + two d 0) d))) (let x : 2 + two d 0 ≡ 2 + two d 0 + 0 = omega arith in x)
        ∙ sym (behind (2 + two d 0) h (length (drop (2 + two d 0) d)) 0)
        )

-- what `count` answers
pub ruleset count_laws = (count_none, count_cut, count_more)

-- ---- n, the rows, the lists
module _ (n : ℕ) (t d : List ℕ) where
  pub area_few : n < 1 → router_count ≡ area_refusal n t d
  unfolding area_refusal
  area_few h = rw (router_count_low n h) refl

  pub area_many : width < n → router_count ≡ area_refusal n t d
  unfolding area_refusal
  area_many h = rw (router_count_high n h) refl

  module _ (a : 1 ≤ n) (b : n ≤ width) where
    judged : area_refusal n t d ≡ or_then (rows_refusal n t) (lists_refusal n t d)
    unfolding area_refusal
    judged = rw (router_count_true n a b) refl

    pub rows_refused :
        (k : Refusal)
        → refusal_number k ≡ rows_refusal n t
        → refusal_number k ≡ area_refusal n t d
    rows_refused k e =
        e ∙ sym (judged ∙ then_some (rows_refusal n t) (lists_refusal n t d)
        (λ z. let x : ⊥ = omega (arith, refusal_positive k, e, z) in x))

    pub rows_accepted : 0 ≡ rows_refusal n t → lists_refusal n t d ≡ area_refusal n t d
    rows_accepted e = sym (judged ∙ then_none (rows_refusal n t) (lists_refusal n t d) (sym e))

  -- what is known where nothing is refused
  module _ (z : area_refusal n t d ≡ 0) where
    pub count_in : is_router_count n ≡ true
    unfolding area_refusal
    count_in =
        ⊎_elim (λ e. e)
        (λ e. absurd (let x : router_count ≡ 0 = rw e at z in omega arith))
        (look (is_router_count n))

    pub accepted_both : (rows_refusal n t ≡ 0) × (lists_refusal n t d ≡ 0)
    accepted_both =
        then_both (rows_refusal n t) (lists_refusal n t d)
        (sym (judged (router_count_some n count_in) (router_count_most n count_in)) ∙ z)

-- ---- the whole
module _ (n : ℕ) (t d m : List ℕ) where
  pub isis_size : length m ≢ width * width → table_size ≡ isis_refusal n t d m
  unfolding isis_refusal
  isis_size f = rw (table_false m f) refl

  pub metrics_kept : length m ≢ width * width → m ≡ isis_metrics n t d m
  unfolding isis_metrics
  metrics_kept f = rw (table_false m f) refl

  module _ (a : length m ≡ width * width) where
    pub isis_area : area_refusal n t d ≡ isis_refusal n t d m
    unfolding isis_refusal
    isis_area = rw (table_true m a) refl

    pub metrics_accepted : area_refusal n t d ≡ 0 → listed n t d ≡ isis_metrics n t d m
    unfolding isis_metrics
    metrics_accepted z = rw (table_true m a, eq-eqb (area_refusal n t d) 0 z) refl

    pub metrics_refused : area_refusal n t d ≢ 0 → no_links ≡ isis_metrics n t d m
    unfolding isis_metrics
    metrics_refused f = rw (table_true m a, ne_eqb (area_refusal n t d) 0 f) refl

    -- out is what was made of the metric table
    pub read_clear : (out : List ℕ) → out ≡ build (length m) (λ _. unused) → out ≡ no_links
    unfolding no_links tabulate
    read_clear out e = e ∙ ap (λ (k : ℕ). build k (λ _. unused)) a

    -- v is what was found
    pub read_filled :
        (v : Result (Unit {0}) Refusal)
        → verdict_number v ≡ area_refusal n t d
        → is_err v ≡ false
        → (out : List ℕ)
        → IfOk v (λ _. out ≡ listed n t d)
        → out ≡ isis_metrics n t d m
    read_filled (Ok x) told e out f = f ∙ metrics_accepted (sym told)
    read_filled (Err k) told e out f = absurd (false≢true (sym e))

    pub read_refused :
        (v : Result (Unit {0}) Refusal)
        → verdict_number v ≡ area_refusal n t d
        → is_err v ≡ true
        → (old out : List ℕ)
        → length old ≡ length m
        → out ≡ build (length old) (λ _. unused)
        → out ≡ isis_metrics n t d m
    read_refused (Ok x) told e old out same f = absurd (false≢true e)
    read_refused (Err k) told e old out same f =
        read_clear out (f ∙ ap (λ (k : ℕ). build k (λ _. unused)) same)
        ∙ metrics_refused (λ z. let x : ⊥ = omega (arith, refusal_positive k, told, z) in x)

-- what `fill` and `read` answer
pub ruleset fill_laws = (area_few, area_many, rows_refused, rows_accepted, rows_in)

pub ruleset read_laws = (isis_size, metrics_kept, isis_area, read_clear, read_filled, read_refused)
