-- The pairs of the entries of a list that were read, kept as a set for each router below the width.
--     Seen l k s       set i of s holds j exactly where one of the first k entries of l is of the pair (i, j)
--     seen_none        it holds of empty sets before the first entry
--     seen_next        and of one entry more when its pair is added: in the set of its first router one bit more is
--                      set, and every other set stays
--     seen_beyond      an entry whose first router has no set changes nothing
--     seen_first       so the sets tell whether the next entry is the first of its pair
use Rattle.std.specs.Prelude.{ℕ, suc, ◌+◌, ◌≤◌, ◌<◌, ◌≡◌, refl, Bool, true, false, not, ◌||◌, List, eqb, get_or, set}
use Rattle.std.specs.Prelude.{replicate}
use Rattle.std.proofs.Common.{sym, ap₂, ◌∙◌, ⊎_elim, add-one, arith, get_or-set_same, get_or-set_other}
use Rattle.std.proofs.Math.Path.{ap, subst}
use Rattle.std.proofs.Math.Bool.{false≢true}
use Rattle.std.proofs.Math.Decide.{ℕ_discrete}
use Rattle.std.proofs.Math.ListN.{length-set}
use Rattle.std.proofs.lemmas.List.{length-replicate}
use borrow.Author.Tests.{eq-eqb, ne_eqb}
use Rattle.area.specs.Limits.{width}
use Rattle.area.proofs.PerRouterLaws.{zeros_at}
use Rattle.area.proofs.TestLaws.{look, or_none, or_right}
use Rattle.sets.specs.Sets.{bit, added}
use Rattle.sets.proofs.SetLaws.{bit_zero, bit_added}
use Rattle.entries.specs.declared.Entry.{Entry}
use Rattle.entries.specs.Entries.{entry_of, from, to, is_for_pair, is_free, is_first}
use Rattle.entries.proofs.EntryLaws.{read_from, read_to, of_pair, pair_of, free_none, free_taken, free_kept}
use Rattle.entries.specs.Seen.{Seen}

pub seen_none : (l : List ℕ) → Seen l 0 (replicate width 0)
seen_none l = record {
  size = length-replicate {A = ℕ} width 0;
  pairs = λ i j a b. ap (λ (x : ℕ). bit x j) (zeros_at width i) ∙ bit_zero j ∙ rw (free_none l i j) refl;
}

-- ---- one pair more
module _ (l : List ℕ) (k : ℕ) (s : List ℕ) (seen : Seen l k s) (a : from l k < width) where
  -- the set of the entry's first router, and with the pair
  abbrev before : ℕ
  before = get_or s (from l k) 0

  abbrev with : ℕ
  with = added width before (to l k)

  grown : List ℕ
  grown = set s (from l k) with

  own : (j : ℕ) → j < width → bit (get_or grown (from l k) 0) j ≡ (bit before j || eqb j (to l k))
  unfolding grown
  own j d =
      ap (λ (x : ℕ). bit x j) (get_or-set_same s (from l k) with 0 (omega (arith, seen.size)))
      ∙ bit_added width before (to l k) j d

  kept :
      (i j : ℕ)
      → j < width
      → is_for_pair l k i j ≡ false
      → Dec (from l k ≡ i)
      → bit (get_or grown i 0) j ≡ bit (get_or s i 0) j
  unfolding grown
  kept i j d f (no g) = ap (λ (x : ℕ). bit x j) (get_or-set_other s (from l k) i with 0 (λ q. g (sym q)))
  kept i j d f (yes e) =
      let other = ne_eqb j (to l k) (λ q. false≢true (sym f ∙ pair_of l k i j e (sym q))) in
      subst (λ (x : ℕ). bit (get_or grown x 0) j ≡ bit (get_or s x 0) j) e (own j d ∙ rw other (or_none (bit before j)))

  taken : (i j : ℕ) → j < width → is_for_pair l k i j ≡ true → bit (get_or grown i 0) j ≡ true
  taken i j d t =
      let p = of_pair l k i j t in
      subst (λ (x : ℕ). bit (get_or grown x 0) j ≡ true) p.0
      (own j d ∙ or_right (bit before j) (eqb j (to l k)) (eq-eqb j (to l k) (sym p.1)))

  pairs_more : (i j : ℕ) → i < width → j < width → bit (get_or grown i 0) j ≡ not (is_free l (suc k) i j)
  pairs_more i j c d =
      ⊎_elim
      (λ t. taken i j d t ∙ rw (free_taken l k i j t) refl)
      (λ f. kept i j d f (ℕ_discrete (from l k) i) ∙ seen.pairs i j c d ∙ rw (free_kept l k i j f) refl)
      (look (is_for_pair l k i j))

  seen_more : Seen l (suc k) (set s (from l k) with)
  unfolding grown
  seen_more = record { size = simp length-set seen.size; pairs = pairs_more }

-- ---- by the next entry x, as code has read it
module _ (l : List ℕ) (k : ℕ) (s : List ℕ) (seen : Seen l k s) (x : Entry) (is : x ≡ entry_of l k) where
  -- the sets with the pair of y
  abbrev With : Entry → Type 0
  With y = Seen l (suc k) (set s y.from (added width (get_or s y.from 0) y.to))

  pub seen_next :
      x.from < width → (v : ℕ) → v ≡ added width (get_or s x.from 0) x.to → Seen l (k + 1) (set s x.from v)
  seen_next a v e = rw (e, add-one) (subst With (sym is) (seen_more l k s seen (omega (arith, read_from is))))

  pub seen_beyond : width ≤ x.from → Seen l (k + 1) s
  seen_beyond a = rw add-one (record { size = seen.size; pairs = same })
    where
      other : (i j : ℕ) → i < width → is_for_pair l k i j ≡ false
      other i j c = rw (ne_eqb (from l k) i (λ q. let z : ⊥ = omega (arith, read_from is) in z)) refl

      same : (i j : ℕ) → i < width → j < width → bit (get_or s i 0) j ≡ not (is_free l (suc k) i j)
      same i j c d = seen.pairs i j c d ∙ rw (free_kept l k i j (other i j c)) refl

  pub seen_first : x.from < width → x.to < width → not (bit (get_or s x.from 0) x.to) ≡ is_first l k
  seen_first a b =
      ap not (seen.pairs x.from x.to a b)
      ∙ twice (is_free l k x.from x.to)
      ∙ ap₂ (is_free l k) (read_from is) (read_to is)
    where
      twice : (b : Bool) → not (not b) ≡ b
      twice true = refl
      twice false = refl
