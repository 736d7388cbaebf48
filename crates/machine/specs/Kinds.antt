-- The kinds of calls by name. `Kind` is the enum of src/kinds.rt; `Refusal` has a case of that name too.
use Rattle.std.specs.Prelude.{ℕ, ◌≡◌, false, Result, Ok, Err}
use Rattle.area.specs.declared.refusal.Refusal.{Refusal}
use Rattle.area.specs.Refusals.{unknown_kind, refusal_number}
use Rattle.machine.specs.declared.kinds.Kind.{Kind}
use Rattle.machine.specs.declared.kinds.Kind.TheVariants.{Learn, Release, Write, Finish, Deliver, Tick}
use Rattle.machine.specs.Machine.{learn_kind, release_kind, write_kind, finish_kind, deliver_kind, tick_kind, is_kind}

-- the number of a kind
abbrev pub kind_number : Kind → ℕ
kind_number Learn = learn_kind
kind_number Release = release_kind
kind_number Write = write_kind
kind_number Finish = finish_kind
kind_number Deliver = deliver_kind
kind_number Tick = tick_kind

-- what a number names: the kind that has it, or the refusal where none of the six does
abbrev pub Names : (number : ℕ) (named : Result Kind Refusal) → Type 0
Names number (Ok kind) = kind_number kind ≡ number
Names number (Err why) = (is_kind number ≡ false) × (refusal_number why ≡ unknown_kind)
