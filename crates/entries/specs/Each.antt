-- One step of a loop over the entries of a list.
use Rattle.std.specs.Prelude.{◌+◌, ◌≤◌, ◌<◌, ◌≡◌, Option, None, Some}
use Rattle.entries.specs.declared.Entry.{Entry}
use Rattle.entries.specs.declared.Entries.{Entries}
use Rattle.entries.specs.Entries.{entry_count, entry_of}

-- no entry is left, and none will come
pub record Ends (old new : Entries) : Type 0 where
  pub over : entry_count old.list.now ≤ old.next
  pub list : new.list.now ≡ old.list.now
  pub next : new.next ≡ old.next

-- the entry at place `next`, and the place behind it is the next one
pub record Gives (old : Entries) (given : Entry) (new : Entries) : Type 0 where
  pub listed : old.next < entry_count old.list.now
  pub entry : given ≡ entry_of old.list.now old.next
  pub list : new.list.now ≡ old.list.now
  pub next : new.next ≡ old.next + 1

abbrev pub GivesEntry : Entries → Option Entry → Entries → Type 0
GivesEntry old None new = Ends old new
GivesEntry old (Some given) new = Gives old given new
