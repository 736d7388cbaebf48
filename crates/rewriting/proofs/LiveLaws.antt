-- Laws of the live links. Each of them is a link of the list (live_from), so what is known of the links holds of them
-- too; no order is needed. Any bytes may follow them: `rest`.
--     count_none, count_kept, count_dropped      one link more, as code counts it
--     live_none, live_kept, live_dropped         and writes it
--     live_length, live_most       how long they are, and how many at most
--     live_from                    each is a link of the list that is not dead
--     live_new                     no pair is listed twice among them
--     live_listed                  they give every pair the same metric
--     live_all                     where no link is dead, they are all links
--     live_cut                     the first bytes of the list have them
use Prim.Native.Nat.{ℕ, zero, suc, ◌+◌, ◌*◌, ◌≤◌, ◌<◌}
use Rattle.std.specs.Prelude.{◌≡◌, false, ◌&&◌, ◌⊎◌, get_or, drop}
use Rattle.std.proofs.Math.Path.{refl, sym, ap, ap₂, subst}
use Rattle.std.proofs.Common.{◌∙◌, inl, inr, eq-or-lt_of_le, le_of_suc-le-suc, not-suc-le-zero, eqb-true, length-take}
use Rattle.std.proofs.Common.{◌-◌, length-drop, get_or-take, get_or-drop, get_or-append-add, take-add}
use Rattle.std.proofs.lemmas.List.{drop-take, take-take}
use Rattle.std.proofs.Math.Bool.{true}
use Rattle.std.proofs.lemmas.Bool.{false≢true}
use Rattle.std.proofs.Math.Logic.{⊎_elim}
use mathlib.Core.List.{List, [], ◌++◌, append_assoc}
use Rattle.std.proofs.Math.Numerals.{add-one}
use native.Mathlib.Omega.{arith}
use Rattle.std.proofs.Math.Dec.{eqb}
use Rattle.std.proofs.Math.ListN.{length, take, length-append, get_or-append}
use Rattle.area.specs.Limits.{unused}
use Rattle.area.specs.Tests.{pick}
use Rattle.area.proofs.TestLaws.{look}
use Rattle.entries.specs.declared.Entry.{Entry}
use Rattle.entries.specs.Entries.{entry_of, from, to, metric, is_for_pair, is_free, is_first, listed_metric}
use Rattle.entries.proofs.EntryLaws.{entry_count_least, entry_moved, of_pair, free_true, free_false}
use Rattle.entries.proofs.EntryLaws.{given_start, given_next, given_none}
use Rattle.bench_file.specs.Faults.{is_dead}
use Rattle.text.specs.Text.{Writes}
use Rattle.text.specs.declared.writer.Writer.{Writer}
use Rattle.text.proofs.WriterLaws.{writes_none, writes_then}
use Rattle.rewriting.specs.Live.{bytes_of, kept_of, live, live_count}

-- ---- one link more, as code counts and appends it
module _ (l : List ℕ) (k count : ℕ) (is : count ≡ live_count l k) where
  pub count_kept : is_dead (entry_of l k) ≡ false → count + 1 ≡ live_count l (k + 1)
  unfolding live_count
  count_kept e = rw (is, add-one (live_count l k), add-one k, e) refl

  pub count_dropped : is_dead (entry_of l k) ≡ true → count ≡ live_count l (k + 1)
  unfolding live_count
  count_dropped e = rw (add-one, e, is) refl

pub count_none : (l : List ℕ) → 0 ≡ live_count l 0
unfolding live_count
count_none l = refl

pub live_none : (l : List ℕ) (w : Writer) → Writes w (live l 0) w
unfolding live
live_none l w = writes_none w

module _ (l : List ℕ) (k : ℕ) {u v : Writer} (so_far : Writes u (live l k) v) where
  pub live_kept :
      {w : Writer}
      → is_dead (entry_of l k) ≡ false
      → Writes v (bytes_of l k) w
      → Writes u (live l (k + 1)) w
  unfolding live
  live_kept e x = rw (add-one k, e) (writes_then so_far x)

  pub live_dropped : is_dead (entry_of l k) ≡ true → Writes u (live l (k + 1)) v
  unfolding live
  live_dropped e = rw (add-one k, e) (writes_then so_far (writes_none v))

-- ---- each of the first k links is the first of its pair
abbrev pub Once : (l : List ℕ) (k : ℕ) → Type 0
Once l k = (e : ℕ) → e < k → is_first l e ≡ true

-- no link before a free one is of its pair
earlier :
    (l : List ℕ) (k i j : ℕ)
    → is_free l k i j ≡ true
    → (d : ℕ)
    → d < k
    → is_for_pair l d i j ≡ false
earlier l k i j e d b =
    ⊎_elim
    (λ t. absurd (false≢true (sym (free_false l k i j d b t) ∙ e)))
    (λ f. f)
    (look (is_for_pair l d i j))

module _ (l : List ℕ) where
  -- ---- how long, and how many
  bytes_length : (k : ℕ) → 5 * suc k ≤ length l → length (bytes_of l k) ≡ 5
  bytes_length k h = omega (arith, length-take 5 (drop (5 * k) l), length-drop (5 * k) l)

  pub live_length : (k : ℕ) → 5 * k ≤ length l → length (live l k) ≡ 5 * live_count l k
  unfolding live live_count
  live_length zero h = refl
  live_length (suc k) h = by_link (look (is_dead (entry_of l k))) (live_length k (omega arith))
    where
      by_link :
          (is_dead (entry_of l k) ≡ true) ⊎ (is_dead (entry_of l k) ≡ false)
          → length (live l k) ≡ 5 * live_count l k
          → length (live l k ++ kept_of l k) ≡ 5 * pick (is_dead (entry_of l k)) (live_count l k) (suc (live_count l k))
      by_link (inl e) ih = rw e (omega (arith, length-append (live l k) [], ih))
      by_link (inr e) ih = rw e (omega (arith, length-append (live l k) (bytes_of l k), ih, bytes_length k h))

  pub live_most : (k : ℕ) → live_count l k ≤ k
  unfolding live_count
  live_most zero = omega arith
  live_most (suc k) =
      ⊎_elim
      (λ e. rw e (omega (arith, live_most k)))
      (λ e. rw e (omega (arith, live_most k)))
      (look (is_dead (entry_of l k)))

  -- ---- one link more: nothing, or its bytes
  dead_next :
      (k : ℕ) (rest : List ℕ)
      → is_dead (entry_of l k) ≡ true
      → (live l (suc k) ++ rest ≡ live l k ++ rest) × (live_count l (suc k) ≡ live_count l k)
  unfolding live live_count
  dead_next k rest e = rw e (append_assoc (live l k) [] rest, refl)

  -- the live links before link k, this one, and the rest
  abbrev with : (k : ℕ) (rest : List ℕ) → List ℕ
  with k rest = live l k ++ (bytes_of l k ++ rest)

  live_more :
      (k : ℕ) (rest : List ℕ)
      → is_dead (entry_of l k) ≡ false
      → (live l (suc k) ++ rest ≡ with k rest) × (live_count l (suc k) ≡ suc (live_count l k))
  unfolding live live_count
  live_more k rest e = rw e (append_assoc (live l k) (bytes_of l k) rest, refl)

  -- there, the entry behind the live links is link k
  live_next :
      (k : ℕ) (rest : List ℕ)
      → 5 * suc k ≤ length l
      → entry_of (with k rest) (live_count l k) ≡ entry_of l k
  live_next k rest h =
      let so_far = live_length k (omega arith) in
      let joined = length-append (live l k) (bytes_of l k ++ rest) in
      let added = length-append (bytes_of l k) rest in
      let long : 5 * suc (live_count l k) ≤ length (with k rest)
      = omega (arith, joined, added, so_far, bytes_length k h) in
      let a = entry_count_least (with k rest) (suc (live_count l k)) long in
      let b = entry_count_least l (suc k) h in
      entry_moved (with k rest) l (live_count l k) k (omega arith) (omega arith) bytes
    where
      bytes : (i : ℕ) → i < 5 → get_or (with k rest) (5 * live_count l k + i) 0 ≡ get_or l (5 * k + i) 0
      bytes i b =
          subst (λ (x : ℕ). get_or (with k rest) (x + i) 0 ≡ get_or (bytes_of l k ++ rest) i 0)
          (live_length k (omega arith)) (get_or-append-add (live l k) (bytes_of l k ++ rest) i 0)
          ∙ get_or-append (bytes_of l k) rest 0 i (omega (arith, bytes_length k h))
          ∙ get_or-take 5 (drop (5 * k) l) i 0 b
          ∙ get_or-drop (5 * k) l i 0

  -- ---- each is a link of the list that is not dead
  abbrev From : (k : ℕ) (m : List ℕ) (e : ℕ) → Type 0
  From k m e = (d : ℕ) × (d < k) × (is_dead (entry_of l d) ≡ false) × (entry_of m e ≡ entry_of l d)

  pub live_from :
      (k : ℕ) (rest : List ℕ)
      → 5 * k ≤ length l
      → (e : ℕ)
      → e < live_count l k
      → From k (live l k ++ rest) e
  unfolding live_count
  live_from zero rest h e b = absurd (not-suc-le-zero b)
  live_from (suc k) rest h e b = by_link (look (is_dead (entry_of l k))) (λ more c. live_from k more (omega arith) e c)
    where
      by_link :
          (is_dead (entry_of l k) ≡ true) ⊎ (is_dead (entry_of l k) ≡ false)
          → ((more : List ℕ) → e < live_count l k → From k (live l k ++ more) e)
          → From (suc k) (live l (suc k) ++ rest) e
      by_link (inl t) ih =
          let x = dead_next k rest t in
          let y = ih rest (omega (arith, x.1)) in
          (y.0, omega arith, y.2, ap (λ (z : List ℕ). entry_of z e) x.0 ∙ y.3)
      by_link (inr t) ih = by_place (eq-or-lt_of_le (le_of_suc-le-suc (subst (λ (z : ℕ). e < z) x.1 b)))
        where
          x : (live l (suc k) ++ rest ≡ with k rest) × (live_count l (suc k) ≡ suc (live_count l k))
          x = live_more k rest t

          by_place : (e ≡ live_count l k) ⊎ (e < live_count l k) → From (suc k) (live l (suc k) ++ rest) e
          by_place (inl q) =
              (k, omega arith, t, ap (λ (z : List ℕ). entry_of z e) x.0 ∙ rw q (live_next k rest h))
          by_place (inr c) =
              let y = ih (bytes_of l k ++ rest) c in
              (y.0, omega arith, y.2, ap (λ (z : List ℕ). entry_of z e) x.0 ∙ y.3)

  -- ---- no pair is listed twice
  -- a pair that none of the first k links is of is not listed among those of them that are live
  live_free :
      (k : ℕ) (rest : List ℕ) (i j : ℕ)
      → 5 * k ≤ length l
      → is_free l k i j ≡ true
      → is_free (live l k ++ rest) (live_count l k) i j ≡ true
  live_free k rest i j h free = free_true (live l k ++ rest) (live_count l k) i j other
    where
      other : (e : ℕ) → e < live_count l k → is_for_pair (live l k ++ rest) e i j ≡ false
      other e b =
          let x = live_from k rest h e b in
          ap (λ (y : Entry). eqb y.from i && eqb y.to j) x.3 ∙ earlier l k i j free x.0 x.1

  pub live_new :
      (k : ℕ) (rest : List ℕ)
      → 5 * k ≤ length l
      → Once l k
      → Once (live l k ++ rest) (live_count l k)
  unfolding live_count
  live_new zero rest h once e b = absurd (not-suc-le-zero b)
  live_new (suc k) rest h once e b =
      by_link (look (is_dead (entry_of l k))) (λ more. live_new k more (omega arith) (λ d c. once d (omega arith)) e)
    where
      by_link :
          (is_dead (entry_of l k) ≡ true) ⊎ (is_dead (entry_of l k) ≡ false)
          → ((more : List ℕ) → e < live_count l k → is_first (live l k ++ more) e ≡ true)
          → is_first (live l (suc k) ++ rest) e ≡ true
      by_link (inl t) ih =
          let x = dead_next k rest t in
          subst (λ (m : List ℕ). is_first m e ≡ true) (sym x.0) (ih rest (omega (arith, x.1)))
      by_link (inr t) ih =
          subst (λ (m : List ℕ). is_first m e ≡ true) (sym x.0)
          (by_place (eq-or-lt_of_le (le_of_suc-le-suc (subst (λ (z : ℕ). e < z) x.1 b))))
        where
          x : (live l (suc k) ++ rest ≡ with k rest) × (live_count l (suc k) ≡ suc (live_count l k))
          x = live_more k rest t

          own : is_first (with k rest) (live_count l k) ≡ true
          own =
              subst (λ (y : Entry). is_free (with k rest) (live_count l k) y.from y.to ≡ true)
              (sym (live_next k rest h))
              (live_free k (bytes_of l k ++ rest) (from l k) (to l k) (omega arith) (once k (omega arith)))

          by_place : (e ≡ live_count l k) ⊎ (e < live_count l k) → is_first (with k rest) e ≡ true
          by_place (inl q) = rw q own
          by_place (inr c) = ih (bytes_of l k ++ rest) c

  -- ---- the metrics
  module _ (i j : ℕ) where
    -- what the live links before link k give the pair
    abbrev before : (k : ℕ) (rest : List ℕ) → ℕ
    before k rest = listed_metric (with k rest) (live_count l k) i j unused

    -- a dead link gives its pair nothing that it has not
    dead_same :
        (k : ℕ)
        → is_first l k ≡ true
        → is_dead (entry_of l k) ≡ true
        → listed_metric l k i j unused ≡ listed_metric l (suc k) i j unused
    dead_same k first e = by_pair (look (is_for_pair l k i j))
      where
        by_pair :
            (is_for_pair l k i j ≡ true) ⊎ (is_for_pair l k i j ≡ false)
            → listed_metric l k i j unused ≡ listed_metric l (suc k) i j unused
        by_pair (inr f) = sym (given_next l k i j unused ∙ rw f refl)
        by_pair (inl t) = none ∙ sym (given_next l k i j unused ∙ rw t (eqb-true (metric l k) unused e))
          where
            none : listed_metric l k i j unused ≡ unused
            none =
                given_none l k i j unused
                (λ d b.
                let p = of_pair l k i j t in
                rw (← p.0, ← p.1) (earlier l k (from l k) (to l k) first d b))

    pub live_listed :
        (k : ℕ) (rest : List ℕ)
        → 5 * k ≤ length l
        → Once l k
        → listed_metric (live l k ++ rest) (live_count l k) i j unused ≡ listed_metric l k i j unused
    unfolding live live_count
    live_listed zero rest h once = given_start rest i j unused ∙ sym (given_start l i j unused)
    live_listed (suc k) rest h once =
        by_link (look (is_dead (entry_of l k)))
        (λ more. live_listed k more (omega arith) (λ e b. once e (omega arith)))
      where
        by_link :
            (is_dead (entry_of l k) ≡ true) ⊎ (is_dead (entry_of l k) ≡ false)
            → ((more : List ℕ)
            → listed_metric (live l k ++ more) (live_count l k) i j unused ≡ listed_metric l k i j unused)
            → listed_metric (live l (suc k) ++ rest) (live_count l (suc k)) i j unused
            ≡ listed_metric l (suc k) i j unused
        by_link (inl e) ih =
            let x = dead_next k rest e in
            ap₂ (λ (m : List ℕ) (c : ℕ). listed_metric m c i j unused) x.0 x.1
            ∙ ih rest
            ∙ dead_same k (once k (omega arith)) e
        by_link (inr e) ih =
            let x = live_more k rest e in
            ap₂ (λ (m : List ℕ) (c : ℕ). listed_metric m c i j unused) x.0 x.1
            ∙ given_next (with k rest) (live_count l k) i j unused
            ∙ ap (λ (y : Entry). pick (eqb y.from i && eqb y.to j) y.metric (before k rest))
            (live_next k rest h)
            ∙ ap (pick (is_for_pair l k i j) (metric l k)) (ih (bytes_of l k ++ rest))
            ∙ sym (given_next l k i j unused)

  -- ---- where no link is dead
  pub live_all :
      (k : ℕ)
      → 5 * k ≤ length l
      → ((e : ℕ) → e < k → is_dead (entry_of l e) ≡ false)
      → (live l k ≡ take (5 * k) l) × (live_count l k ≡ k)
  unfolding live live_count
  live_all zero h none = (refl, refl)
  live_all (suc k) h none =
      let x = live_all k (omega arith) (λ e b. none e (omega arith)) in
      let five : 5 * k + 5 ≡ 5 * suc k = omega arith in
      rw (none k (omega arith)) (
        ap (λ (m : List ℕ). m ++ bytes_of l k) x.0
            ∙ sym (take-add (5 * k) 5 l)
            ∙ ap (λ (n : ℕ). take n l) five,
        ap suc x.1,
      )

  -- ---- of the first bytes of the list, as far as they have the links
  pub live_cut :
      (n k : ℕ)
      → n ≤ length l
      → 5 * k ≤ n
      → (live (take n l) k ≡ live l k) × (live_count (take n l) k ≡ live_count l k)
  unfolding live live_count
  live_cut n zero h a = (refl, refl)
  live_cut n (suc k) h a =
      let size = length-take n l in
      let before = live_cut n k h (omega arith) in
      let here = entry_count_least l (suc k) (omega arith) in
      let there = entry_count_least (take n l) (suc k) (omega arith) in
      let entry : entry_of (take n l) k ≡ entry_of l k =
      entry_moved (take n l) l k k (omega arith) (omega arith) (λ i b. get_or-take n l (5 * k + i) 0 (omega arith)) in
      let more : n ≡ 5 * k + (n - 5 * k) = omega arith in
      let bytes : bytes_of (take n l) k ≡ bytes_of l k =
      ap (λ (m : ℕ). take 5 (drop (5 * k) (take m l))) more
      ∙ ap (take 5) (drop-take (5 * k) (n - 5 * k) l)
      ∙ take-take 5 (n - 5 * k) (drop (5 * k) l) (omega arith) in
      rw (before.0, before.1, entry, bytes) (refl, refl)
