-- A loop over the entries of a list l, as `for entry in Entries::of(list)`. A step takes the iterator from s to t.
--     Visits           s goes over l, and its next place is no further than the end of l
--     visits_first     so it is at the first step
--     visits_next      and at the step after one that gave an entry
--     visits_listed, visits_entry
--                      an entry that is given is the one at the next place, which is in l
--     visits_all       where none is given, all were
use Rattle.std.specs.Prelude.{ℕ, ◌≤◌, ◌<◌, ◌≡◌, List}
use Rattle.std.proofs.Common.{◌∙◌, ap, arith}
use Rattle.entries.specs.declared.Entry.{Entry}
use Rattle.entries.specs.declared.Entries.{Entries}
use Rattle.entries.specs.Entries.{entry_count, entry_of}
use Rattle.entries.specs.Each.{Ends, Gives}

pub record Visits (l : List ℕ) (s : Entries) : Type 0 where
  pub list : s.list.now ≡ l
  pub within : s.next ≤ entry_count l

pub visits_first : {l : List ℕ} {s : Entries} → s.list.now ≡ l → s.next ≡ 0 → Visits l s
visits_first list next = record { list = list; within = omega (arith, next) }

module _ {l : List ℕ} {s : Entries} (visits : Visits l s) where
  pub visits_all : {t : Entries} → Ends s t → s.next ≡ entry_count l
  visits_all e =
      let end = ap entry_count visits.list in
      omega (arith, end, e.over, visits.within)

  module _ {t : Entries} {x : Entry} (g : Gives s x t) where
    pub visits_listed : s.next < entry_count l
    visits_listed =
        let end = ap entry_count visits.list in
        omega (arith, end, g.listed)

    pub visits_entry : x ≡ entry_of l s.next
    visits_entry = g.entry ∙ ap (λ (m : List ℕ). entry_of m s.next) visits.list

    pub visits_next : Visits l t
    visits_next = record { list = g.list ∙ visits.list; within = omega (arith, visits_listed, g.next) }
