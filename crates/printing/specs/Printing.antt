-- What was printed: n bytes of `out`, for an input of which a buffer holds what was read.
use Rattle.std.specs.Prelude.{ℕ, ◌≡◌, List, take}
use Rattle.plan.specs.Plan.{Tables}
use Rattle.plan.specs.Planned.{Sized}
use Rattle.streams.specs.Streams.{IsPrefixLen, ReadOf}
use Rattle.report.specs.declared.Text.{Text}
use Rattle.report.specs.Report.{text_of}

-- They are the whole text of the whole input, whatever was left unread of it. The tables that were lent have the right
-- sizes, so the text is no refusal of these.
pub record PrintedAs (text : (f m : List ℕ) (t : Tables) → List ℕ) (file out : List ℕ) (n : ℕ) : Type 0 where
  pub count : ℕ
  pub before : List ℕ
  pub tables : Tables
  pub read : IsPrefixLen count file
  pub sized : Sized before tables
  pub within : IsPrefixLen n out
  pub whole : (input : List ℕ) → ReadOf input file count → take n out ≡ text input before tables

-- the same of a text by its name
abbrev pub Printed : (text : Text) (file out : List ℕ) (n : ℕ) → Type 0
Printed text = PrintedAs (text_of text)
