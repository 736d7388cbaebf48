-- The refusal of a link, by the pairs of the links before it (entries/proofs/SeenLaws.antt).
--     seen_refusal_lem, link_told      the refusal of the next link can be told from the sets of pairs
--     in_sets                      a link without fault has a set to add its pair to
use Prim.Native.Nat.{ℕ, ◌≤◌, ◌<◌}
use mathlib.Core.Path.{◌≡◌, refl, sym, ap, ◌∙◌}
use mathlib.Core.Bool.{Bool, true, false, not}
use mathlib.Core.List.{List}
use native.Mathlib.Decide.{ℕ_discrete}
use native.Mathlib.Omega.{arith}
use Rattle.area.specs.Limits.{width}
use Rattle.area.specs.Refusals.{repeated}
use Rattle.area.specs.Tests.{pick, or_then}
use Rattle.area.proofs.TestLaws.{then_some}
use Rattle.entries.specs.declared.Entry.{Entry}
use Rattle.entries.specs.Entries.{entry_count, entry_of, from, to, is_first, entry_refusal}
use Rattle.entries.proofs.EntryLaws.{read_from, faultless_of}
use Rattle.entries.specs.Seen.{Seen}
use Rattle.bench_file.specs.declared.Format.{Format}
use Rattle.bench_file.specs.Faults.{dead_refusal, link_refusal, seen_refusal}
use Rattle.bench_file.proofs.FaultLaws.{whole_refusal, link_whole, link_sound}

-- ---- the refusal of the next link
-- a pair that was seen is not free
not_free : (b : Bool) (n : ℕ) → pick (not b) n 0 ≡ pick b 0 n
not_free true n = refl
not_free false n = refl

pub seen_refusal_lem :
    (format : Format) (n : ℕ) (l : List ℕ) (k : ℕ) (s : List ℕ)
    → n ≤ width
    → Seen l k s
    → seen_refusal format n (entry_of l k) s ≡ whole_refusal format n (entry_of l k) (is_first l k)
seen_refusal_lem format n l k s most seen = by_entry (ℕ_discrete (entry_refusal n (entry_of l k)) 0)
  where
    by_entry :
        Dec (entry_refusal n (entry_of l k) ≡ 0)
        → seen_refusal format n (entry_of l k) s ≡ whole_refusal format n (entry_of l k) (is_first l k)
    by_entry (no f) =
        then_some (entry_refusal n (entry_of l k)) _ f
        ∙ sym (then_some (entry_refusal n (entry_of l k)) _ f)
    by_entry (yes z) =
        let x = faultless_of n (entry_of l k) z in
        let told = seen.pairs (from l k) (to l k) (omega (arith, x.from_in)) (omega (arith, x.to_in)) in
        ap (λ (y : ℕ). or_then (entry_refusal n (entry_of l k)) (or_then (dead_refusal format (entry_of l k)) y))
        (rw told (not_free (is_first l k) repeated))

-- ---- a link that was read, with what was told of it
module _
    (format : Format) (n : ℕ) (l : List ℕ) (k : ℕ) (s : List ℕ) (most : n ≤ width) (seen : Seen l k s)
    (x : Entry) (is : x ≡ entry_of l k)
  where
    pub link_told : k < entry_count l → seen_refusal format n x s ≡ link_refusal format n l k
    link_told h =
        ap (λ (y : Entry). seen_refusal format n y s) is
        ∙ seen_refusal_lem format n l k s most seen
        ∙ sym (link_whole format n l k h)

    module _ (z : link_refusal format n l k ≡ 0) where
      pub in_sets : x.from < width
      in_sets = omega (arith, read_from is, (link_sound format n l k z).entry.from_in)
