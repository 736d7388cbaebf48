-- What `all` answers of the entries of a list l: by `all_listed`, clause `ran` of `Entries::of(list).all(..)`, the
-- clause of `of` and the test that the closure computes give that the answer is the test of every entry of l.
use Rattle.std.specs.Prelude.{ℕ, zero, suc, ◌+◌, ◌-◌, ◌≡◌, Bool, true, false, ◌&&◌, List, [], ◌∷◌}
use Rattle.std.proofs.Common.{refl, sym, ◌∙◌, ap, arith, length}
use Rattle.std.specs.List.{list_all}
use Rattle.std.specs.Fn.{Called}
use Rattle.std.specs.Iterator.{ChecksAll}
use Rattle.std.proofs.lemmas.Iterator.Consumers.{YieldsList-from_shown}
use Rattle.std.proofs.lemmas.Iterator.Search.{all_from_yields_List}
use denote.Param.Members.{Mut}
use Rattle.area.specs.Tests.{all}
use Rattle.area.proofs.TestLaws.{and_one, all_none, all_next}
use Rattle.entries.specs.declared.Entry.{Entry}
use Rattle.entries.specs.declared.Entries.{Entries}
use Rattle.entries.specs.Entries.{entry_count, entry_of}
use Rattle.entries.specs.Each.{GivesEntry, Ends, Gives}

-- the n entries of l from place k on
listed : (l : List ℕ) (k n : ℕ) → List Entry
listed l k zero = []
listed l k (suc n) = entry_of l k ∷ listed l (suc k) n

left : Entries → List Entry
left s = listed s.list.now s.next (entry_count s.list.now - s.next)

left_over : (s t : Entries) → Ends s t → length (left s) ≡ 0
unfolding left listed
left_over s t e =
    let none : entry_count s.list.now - s.next ≡ 0 = omega (arith, e.over) in
    ap (λ (n : ℕ). length (listed s.list.now s.next n)) none

left_gives : (s : Entries) (x : Entry) (t : Entries) → Gives s x t → left s ≡ x ∷ left t
unfolding left listed
left_gives s x t g =
    let more : entry_count s.list.now - s.next ≡ suc (entry_count s.list.now - suc s.next) = omega (arith, g.listed) in
    let next : t.next ≡ suc s.next = omega (arith, g.next) in
    ap (λ (n : ℕ). listed s.list.now s.next n) more
    ∙ rw (g.entry, g.list, next) refl

regroup : (a b c : Bool) → (a && (b && c)) ≡ ((a && b) && c)
regroup true b c = refl
regroup false b c = refl

-- the test of the n entries from place k on, and of those before
all_from :
    (l : List ℕ) (test : Entry → Bool) (k n : ℕ)
    → (all k (λ e. test (entry_of l e)) && list_all test (listed l k n)) ≡ all (k + n) (λ e. test (entry_of l e))
unfolding listed
all_from l test k zero =
    and_one (all k (λ e. test (entry_of l e)))
    ∙ ap (λ (x : ℕ). all x (λ e. test (entry_of l e))) (let same : k ≡ k + 0 = omega arith in same)
all_from l test k (suc n) =
    regroup (all k (λ e. test (entry_of l e))) (test (entry_of l k)) (list_all test (listed l (suc k) n))
    ∙ ap (λ (b : Bool). b && list_all test (listed l (suc k) n)) (sym (all_next k (λ e. test (entry_of l e))))
    ∙ all_from l test (suc k) n
    ∙ ap (λ (x : ℕ). all x (λ e. test (entry_of l e))) (let same : suc k + n ≡ k + suc n = omega arith in same)

pub all_listed :
    {F : Type 0} {g : Mut F (Entry × Unit {0}) Bool} {s : Entries}
    (l : List ℕ) (test : Entry → Bool) (u : Entries) (f : F) (r : Bool)
    → ChecksAll GivesEntry g s f r u
    → (s.list.now ≡ l) × (s.next ≡ 0)
    → ((x : Entry) (b : Bool) (q : F) → Called g f (x, tt) b q → (q ≡ f) × (b ≡ test x))
    → r ≡ all (entry_count l) (λ e. test (entry_of l e))
unfolding left
all_listed {s = s} l test u f r ran first called =
    all_from_yields_List test u f r ran (YieldsList-from_shown GivesEntry (λ x. x) left left_over left_gives s) called
    ∙ rw (first.0, first.1)
    (ap (λ (b : Bool). b && list_all test (listed l 0 (entry_count l - 0)))
    (sym (all_none (λ e. test (entry_of l e))))
    ∙ all_from l test 0 (entry_count l - 0)
    ∙ ap (λ (x : ℕ). all x (λ e. test (entry_of l e)))
    (let whole : 0 + (entry_count l - 0) ≡ entry_count l = omega arith in whole))
