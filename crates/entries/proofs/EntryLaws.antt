-- Laws of entries: each definition of Entries.antt, by the tests that lead to each of its cases. A proof about lists of
-- entries cites these and opens none of the definitions.
--     read_from, read_to, read_metric, read_cell
--                          the fields of an entry that code has read, and the cell of its pair
--     entry_count_is, entry_count_least, entry_count_same
--                          how many entries a list has
--     entry_bytes, entry_moved, entry_same
--                          an entry by its five bytes
--     joined_count, joined_left, joined_right
--                          the entries of two lists joined
--     metric_fits          a metric of three bytes is at most `unused`
--     of_pair, pair_of     the pair of an entry
--     free_none, free_true, free_false, free_taken, free_kept, free_other, free_same
--                          a pair that no entry is of
--     Faultless, faulty_from, .. faultless_of
--                          the refusals of an entry by itself, each where it is given
--     listed_faulty, listed_free, listed_repeated, listed_passes, listed_sound
--                          the refusals of an entry of a list
--     given_start, given_next, given_more, given_kept, given_none, given_cases, given_at
--                          the metric that a list gives a pair
--     cell_entered         the cells of a table in which an entry is put
use Rattle.std.specs.Prelude.{ℕ, zero, suc, ◌+◌, ◌*◌, ◌%◌, ◌≤◌, ◌<◌, ◌≡◌, Bool, true, not, ◌&&◌, ◌≢◌, ◌⊎◌, List, ◌++◌}
use Rattle.std.specs.Prelude.{ltb, eqb, set}
use Rattle.std.proofs.Math.Path.{refl, ap}
use Rattle.std.proofs.Common.{sym, ap₂, ◌∙◌, inl, inr, eq-or-lt_of_le, le_of_suc-le-suc, not-suc-le-zero, arith}
use Rattle.std.proofs.Common.{get_or-set_same, get_or-set_other}
use Rattle.std.proofs.Math.Bool.{false}
use Rattle.std.proofs.lemmas.Bool.{false≢true}
use Rattle.std.proofs.Math.Logic.{⊎_elim}
use Rattle.std.proofs.Math.Decide.{dec_lt, ℕ_discrete}
use Rattle.std.proofs.Math.ListN.{length, get_or, length-append, get_or-append}
use Rattle.std.proofs.Math.Seq.{get_or-append-add}
use borrow.Author.Tests.{eqb-true, lt-ltb, le-ltb, eq-eqb, ne_eqb, not-true}
use Rattle.area.specs.Limits.{width, unused}
use Rattle.area.specs.Refusals.{unknown_router, self_link, bad_metric, repeated}
use Rattle.area.specs.Tests.{pick}
use Rattle.area.specs.Tables.{cell}
use Rattle.area.proofs.TestLaws.{look, both_true, and_true, and_false, and_one}
use Rattle.area.proofs.TestLaws.{all_none, all_next, all_at, all_true, all_false, then_some, then_none, then_both}
use Rattle.entries.specs.declared.Entry.{Entry}
use Rattle.entries.specs.Entries.{entry_count, entry_of, from, to, metric, is_for_pair, is_free, is_first}
use Rattle.entries.specs.Entries.{entry_refusal, listed_refusal, listed_metric}

-- ---- an entry that code has read
module _ {x y : Entry} (is : x ≡ y) where
  pub read_from : x.from ≡ y.from
  read_from = ap (λ (z : Entry). z.from) is

  pub read_to : x.to ≡ y.to
  read_to = ap (λ (z : Entry). z.to) is

  pub read_metric : x.metric ≡ y.metric
  read_metric = ap (λ (z : Entry). z.metric) is

  pub read_cell : (m : List ℕ) → get_or m (width * x.from + x.to) 0 ≡ cell width m y.from y.to
  read_cell m = ap₂ (λ (i j : ℕ). get_or m (width * i + j) 0) read_from read_to

-- ---- the entries of a list, by its bytes
pub entry_count_is : (l : List ℕ) (k : ℕ) → length l ≡ 5 * k → entry_count l ≡ k
unfolding entry_count
entry_count_is l k e = omega arith

pub entry_count_least : (l : List ℕ) (k : ℕ) → 5 * k ≤ length l → k ≤ entry_count l
unfolding entry_count
entry_count_least l k h = omega arith

pub entry_count_same : (l m : List ℕ) → length l ≡ length m → entry_count l ≡ entry_count m
unfolding entry_count
entry_count_same l m e = omega arith

pub entry_bytes :
    (l : List ℕ) (e : ℕ)
    → e < entry_count l
    → (from l e ≡ get_or l (5 * e) 0)
    × (to l e ≡ get_or l (5 * e + 1) 0)
    × (metric l e ≡ 65536 * get_or l (5 * e + 2) 0 + 256 * get_or l (5 * e + 3) 0 + get_or l (5 * e + 4) 0)
unfolding entry_of
entry_bytes l e h = rw (from, to, metric, lt-ltb e (entry_count l) h) (refl, refl, refl)

-- the same five bytes at another place of another list
pub entry_moved :
    (l m : List ℕ) (e d : ℕ)
    → e < entry_count l
    → d < entry_count m
    → ((i : ℕ) → i < 5 → get_or l (5 * e + i) 0 ≡ get_or m (5 * d + i) 0)
    → entry_of l e ≡ entry_of m d
unfolding entry_of
entry_moved l m e d a b same =
    rw (lt-ltb e (entry_count l) a, lt-ltb d (entry_count m) b)
    (rw (start, same 1 (omega arith), same 2 (omega arith), same 3 (omega arith), same 4 (omega arith)) refl)
  where
    start : get_or l (5 * e) 0 ≡ get_or m (5 * d) 0
    start =
        let left : 5 * e ≡ 5 * e + 0 = omega arith in
        let right : 5 * d + 0 ≡ 5 * d = omega arith in
        ap (λ (x : ℕ). get_or l x 0) left ∙ same 0 (omega arith) ∙ ap (λ (x : ℕ). get_or m x 0) right

pub entry_same :
    (l m : List ℕ) (e : ℕ)
    → e < entry_count l
    → e < entry_count m
    → ((i : ℕ) → i < 5 * e + 5 → get_or l i 0 ≡ get_or m i 0)
    → entry_of l e ≡ entry_of m e
entry_same l m e a b same = entry_moved l m e e a b (λ i h. same (5 * e + i) (omega arith))

-- ---- two lists joined, the first of whole entries: its entries, and then those of the second
module _ (l k : List ℕ) (whole : length l % 5 ≡ 0) where
  pub joined_count : entry_count (l ++ k) ≡ entry_count l + entry_count k
  unfolding entry_count
  joined_count = omega (arith, length-append l k)

  pub joined_left : (e : ℕ) → e < entry_count l → entry_of (l ++ k) e ≡ entry_of l e
  unfolding entry_count
  joined_left e b =
      entry_same (l ++ k) l e (omega (arith, joined_count)) b
      (λ i h. get_or-append l k 0 i (omega arith))

  pub joined_right : (e : ℕ) → e < entry_count k → entry_of (l ++ k) (entry_count l + e) ≡ entry_of k e
  unfolding entry_count
  joined_right e b =
      entry_moved (l ++ k) k (entry_count l + e) e (omega (arith, joined_count)) b
      (λ i h. byte (5 * (entry_count l + e) + i) (5 * e + i) (omega arith))
    where
      byte : (x y : ℕ) → x ≡ length l + y → get_or (l ++ k) x 0 ≡ get_or k y 0
      byte x y q = ap (λ (z : ℕ). get_or (l ++ k) z 0) q ∙ get_or-append-add l k y 0

pub metric_fits : (l : List ℕ) → ((k : ℕ) → get_or l k 0 < 256) → (e : ℕ) → (entry_of l e).metric ≤ unused
unfolding entry_of
metric_fits l byte e =
    ⊎_elim
    (λ t. rw t (omega (arith, byte (5 * e + 2), byte (5 * e + 3), byte (5 * e + 4))))
    (λ f. rw f (omega arith))
    (look (ltb e (entry_count l)))

-- ---- the pair of an entry
pub of_pair : (l : List ℕ) (e i j : ℕ) → is_for_pair l e i j ≡ true → (from l e ≡ i) × (to l e ≡ j)
of_pair l e i j t =
    let b = both_true (eqb (from l e) i) (eqb (to l e) j) t in
    (eqb-true (from l e) i b.0, eqb-true (to l e) j b.1)

pub pair_of : (l : List ℕ) (e i j : ℕ) → from l e ≡ i → to l e ≡ j → is_for_pair l e i j ≡ true
pair_of l e i j a b =
    and_true (eqb (from l e) i) (eqb (to l e) j) (eq-eqb (from l e) i a) (eq-eqb (to l e) j b)

-- ---- a pair that no entry is of
pub free_none : (l : List ℕ) (i j : ℕ) → is_free l 0 i j ≡ true
unfolding is_free
free_none l i j = all_none (λ d. not (is_for_pair l d i j))

-- with one entry more
free_next : (l : List ℕ) (k i j : ℕ) → is_free l (suc k) i j ≡ (is_free l k i j && not (is_for_pair l k i j))
unfolding is_free
free_next l k i j = all_next k (λ d. not (is_for_pair l d i j))

pub free_true :
    (l : List ℕ) (k i j : ℕ)
    → ((d : ℕ) → d < k → is_for_pair l d i j ≡ false)
    → is_free l k i j ≡ true
unfolding is_free
free_true l k i j other = all_true k (λ d. not (is_for_pair l d i j)) (λ d h. rw (other d h) refl)

pub free_false : (l : List ℕ) (k i j d : ℕ) → d < k → is_for_pair l d i j ≡ true → is_free l k i j ≡ false
unfolding is_free
free_false l k i j d h t = all_false k (λ d. not (is_for_pair l d i j)) d h (rw t refl)

pub free_taken : (l : List ℕ) (k i j : ℕ) → is_for_pair l k i j ≡ true → is_free l (suc k) i j ≡ false
free_taken l k i j t =
    free_next l k i j
    ∙ and_false (is_free l k i j) (not (is_for_pair l k i j)) (rw t refl)

pub free_kept :
    (l : List ℕ) (k i j : ℕ)
    → is_for_pair l k i j ≡ false
    → is_free l (suc k) i j ≡ is_free l k i j
free_kept l k i j f =
    free_next l k i j
    ∙ ap (λ (b : Bool). is_free l k i j && not b) f
    ∙ and_one (is_free l k i j)

-- the first entry of its pair is not of the pair of an earlier one
pub free_other :
    (l : List ℕ) (e d : ℕ)
    → is_first l e ≡ true
    → d < e
    → is_for_pair l e (from l d) (to l d) ≡ false
unfolding is_free
free_other l e d free b =
    ⊎_elim
    (λ t. absurd (false≢true (sym other ∙ same t)))
    (λ f. f)
    (look (is_for_pair l e (from l d) (to l d)))
  where
    other : is_for_pair l d (from l e) (to l e) ≡ false
    other =
        not-true (is_for_pair l d (from l e) (to l e))
        (all_at e (λ d. not (is_for_pair l d (from l e) (to l e))) free d b)

    same : is_for_pair l e (from l d) (to l d) ≡ true → is_for_pair l d (from l e) (to l e) ≡ true
    same t =
        let p = of_pair l e (from l d) (to l d) t in
        pair_of l d (from l e) (to l e) (sym p.0) (sym p.1)

-- ---- the refusals of an entry by itself
pub record Faultless (n : ℕ) (x : Entry) : Type 0 where
  pub from_in : x.from < n
  pub to_in : x.to < n
  pub apart : x.from ≢ x.to
  pub some : x.metric ≢ 0

module _ (n : ℕ) (x : Entry) where
  pub faulty_from : n ≤ x.from → entry_refusal n x ≡ unknown_router
  unfolding entry_refusal
  faulty_from a = rw (le-ltb x.from n a) refl

  pub faulty_to : n ≤ x.to → entry_refusal n x ≡ unknown_router
  unfolding entry_refusal
  faulty_to a = rw (and_false (ltb x.from n) (ltb x.to n) (le-ltb x.to n a)) refl

  module _ (i : x.from < n) (j : x.to < n) where
    pub faulty_self : x.from ≡ x.to → entry_refusal n x ≡ self_link
    unfolding entry_refusal
    faulty_self a = rw (lt-ltb x.from n i, lt-ltb x.to n j, eq-eqb x.from x.to a) refl

    module _ (a : x.from ≢ x.to) where
      pub faulty_metric : x.metric ≡ 0 → entry_refusal n x ≡ bad_metric
      unfolding entry_refusal
      faulty_metric b =
          rw (lt-ltb x.from n i, lt-ltb x.to n j, ne_eqb x.from x.to a, eq-eqb x.metric 0 b) refl

      pub faultless : x.metric ≢ 0 → entry_refusal n x ≡ 0
      unfolding entry_refusal
      faultless b =
          rw (lt-ltb x.from n i, lt-ltb x.to n j, ne_eqb x.from x.to a, ne_eqb x.metric 0 b) refl

  pub faultless_of : entry_refusal n x ≡ 0 → Faultless n x
  faultless_of z =
      by_tests (dec_lt x.from n) (dec_lt x.to n) (ℕ_discrete x.from x.to) (ℕ_discrete x.metric 0)
    where
      never : {A : Type 0} (k : ℕ) → 1 ≤ k → entry_refusal n x ≡ k → A
      never k p q = absurd (let x : ⊥ = omega arith in x)

      by_tests :
          Dec (x.from < n)
          → Dec (x.to < n)
          → Dec (x.from ≡ x.to)
          → Dec (x.metric ≡ 0)
          → Faultless n x
      by_tests (no i) j a b = never unknown_router (omega arith) (faulty_from (omega arith))
      by_tests (yes i) (no j) a b = never unknown_router (omega arith) (faulty_to (omega arith))
      by_tests (yes i) (yes j) (yes a) b = never self_link (omega arith) (faulty_self i j a)
      by_tests (yes i) (yes j) (no a) (yes b) = never bad_metric (omega arith) (faulty_metric i j a b)
      by_tests (yes i) (yes j) (no a) (no b) = record { from_in = i; to_in = j; apart = a; some = b }

-- the refusal of an entry by itself, by the tests that lead to it
pub ruleset faults = (faulty_from, faulty_to, faulty_self, faulty_metric, faultless)

-- ---- the refusals of an entry of a list
module _ (n : ℕ) (l : List ℕ) (e : ℕ) where
  pub listed_faulty : entry_refusal n (entry_of l e) ≢ 0 → listed_refusal n l e ≡ entry_refusal n (entry_of l e)
  unfolding listed_refusal
  listed_faulty f = then_some (entry_refusal n (entry_of l e)) (pick (is_first l e) 0 repeated) f

  module _ (z : entry_refusal n (entry_of l e) ≡ 0) where
    pub listed_free : listed_refusal n l e ≡ pick (is_first l e) 0 repeated
    unfolding listed_refusal
    listed_free = then_none (entry_refusal n (entry_of l e)) (pick (is_first l e) 0 repeated) z

    pub listed_repeated : is_first l e ≡ false → listed_refusal n l e ≡ repeated
    listed_repeated f = listed_free ∙ rw f refl

    pub listed_passes : is_first l e ≡ true → listed_refusal n l e ≡ 0
    listed_passes f = listed_free ∙ rw f refl

  pub listed_sound : listed_refusal n l e ≡ 0 → Faultless n (entry_of l e) × (is_first l e ≡ true)
  unfolding listed_refusal
  listed_sound z =
      let b = then_both (entry_refusal n (entry_of l e)) (pick (is_first l e) 0 repeated) z in
      (faultless_of n (entry_of l e) b.0, ⊎_elim (λ t. t) (λ f. absurd (never f b.1)) (look (is_first l e)))
    where
      never : is_first l e ≡ false → pick (is_first l e) 0 repeated ≡ 0 → ⊥
      never f q = let seven : repeated ≡ 0 = rw f at q in omega (arith, seven)

-- two lists with the same entries up to e
pub free_same :
    (l m : List ℕ) (k i j : ℕ)
    → ((d : ℕ) → d < k → entry_of l d ≡ entry_of m d)
    → is_free l k i j ≡ is_free m k i j
free_same l m zero i j same = free_none l i j ∙ sym (free_none m i j)
free_same l m (suc k) i j same =
    free_next l k i j
    ∙ ap₂ ◌&&◌ (free_same l m k i j (λ d h. same d (omega arith)))
    (ap (λ (x : Entry). not (eqb x.from i && eqb x.to j)) (same k (omega arith)))
    ∙ sym (free_next m k i j)

-- ---- the metric that a list gives a pair
module _ (l : List ℕ) (k i j v : ℕ) where
  pub given_more : is_for_pair l k i j ≡ true → listed_metric l (suc k) i j v ≡ metric l k
  unfolding listed_metric
  given_more e = rw e refl

  pub given_kept : is_for_pair l k i j ≡ false → listed_metric l (suc k) i j v ≡ listed_metric l k i j v
  unfolding listed_metric
  given_kept e = rw e refl

pub given_start : (l : List ℕ) (i j v : ℕ) → listed_metric l 0 i j v ≡ v
unfolding listed_metric
given_start l i j v = refl

-- what one entry more gives
pub given_next :
    (l : List ℕ) (k i j v : ℕ)
    → listed_metric l (suc k) i j v
    ≡ pick (is_for_pair l k i j) (metric l k) (listed_metric l k i j v)
unfolding listed_metric
given_next l k i j v = refl

-- a pair that no entry is of keeps its metric
pub given_none :
    (l : List ℕ) (k i j v : ℕ)
    → ((e : ℕ) → e < k → is_for_pair l e i j ≡ false)
    → listed_metric l k i j v ≡ v
unfolding listed_metric
given_none l zero i j v f = refl
given_none l (suc k) i j v f =
    given_kept l k i j v (f k (omega arith))
    ∙ given_none l k i j v (λ e b. f e (omega arith))

-- the metric of (i, j) is that of an entry of this pair, or the one from before
abbrev pub Given : (l : List ℕ) (k i j v : ℕ) → Type 0
Given l k i j v =
    ((e : ℕ) × (e < k) × (is_for_pair l e i j ≡ true) × (listed_metric l k i j v ≡ metric l e))
    ⊎ (listed_metric l k i j v ≡ v)

pub given_cases : (l : List ℕ) (k i j v : ℕ) → Given l k i j v
unfolding listed_metric
given_cases l zero i j v = inr refl
given_cases l (suc k) i j v =
    ⊎_elim
    (λ t. inl (k, omega arith, t, given_more l k i j v t))
    (λ f. kept (given_kept l k i j v f) (given_cases l k i j v))
    (look (is_for_pair l k i j))
  where
    kept : listed_metric l (suc k) i j v ≡ listed_metric l k i j v → Given l k i j v → Given l (suc k) i j v
    kept same (inl c) = inl (c.0, omega (arith, c.1), c.2, same ∙ c.3)
    kept same (inr c) = inr (same ∙ c)

-- no pair is listed twice, so the pair of an entry gets the metric of this entry
pub given_at :
    (l : List ℕ) (k v : ℕ)
    → ((e : ℕ) → e < k → is_first l e ≡ true)
    → (e : ℕ)
    → e < k
    → listed_metric l k (from l e) (to l e) v ≡ metric l e
given_at l zero v free e h = absurd (not-suc-le-zero h)
given_at l (suc k) v free e h =
    ⊎_elim
    (λ (q : e ≡ k). rw q (given_more l k (from l k) (to l k) v (pair_of l k (from l k) (to l k) refl refl)))
    (λ b. kept b ∙ given_at l k v (λ e b. free e (omega arith)) e b)
    (eq-or-lt_of_le (le_of_suc-le-suc h))
  where
    kept : e < k → listed_metric l (suc k) (from l e) (to l e) v ≡ listed_metric l k (from l e) (to l e) v
    kept b = given_kept l k (from l e) (to l e) v (free_other l k e (free k (omega arith)) b)

-- ---- an entry put into a table: the cell of its pair gets its metric
module _
    (l : List ℕ) (k : ℕ) (t : List ℕ)
    (size : length t ≡ width * width)
    (a : from l k < width)
    (b : to l k < width)
  where
    abbrev place : ℕ
    place = width * from l k + to l k

    own_cell : (i j : ℕ) → is_for_pair l k i j ≡ true → cell width (set t place (metric l k)) i j ≡ metric l k
    own_cell i j h =
        let p = of_pair l k i j h in
        ap (λ (x : ℕ). get_or (set t place (metric l k)) x 0) (omega (arith, p.0, p.1))
        ∙ get_or-set_same t place (metric l k) 0 (omega arith)

    other_cell :
        (i j : ℕ)
        → i < width
        → j < width
        → is_for_pair l k i j ≡ false
        → cell width (set t place (metric l k)) i j ≡ cell width t i j
    other_cell i j c d h =
        get_or-set_other t place (width * i + j) (metric l k) 0
        (λ q. false≢true (sym h ∙ pair_of l k i j (omega arith) (omega arith)))

    pub cell_entered :
        (i j : ℕ)
        → i < width
        → j < width
        → cell width (set t (width * from l k + to l k) (metric l k)) i j
        ≡ pick (is_for_pair l k i j) (metric l k) (cell width t i j)
    cell_entered i j c d =
        ⊎_elim
        (λ h. own_cell i j h ∙ rw h refl)
        (λ h. other_cell i j c d h ∙ rw h refl)
        (look (is_for_pair l k i j))
