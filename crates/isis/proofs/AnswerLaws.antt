-- The answer of `read`, by v, which was found of n, the table of identities and the lists; ok says whether v accepts.
--     read_answer      the answer is v, where the metric table has the right size
--     read_none        nothing is refused where v accepts
use Rattle.std.specs.Prelude.{ℕ, ◌*◌, ◌≡◌, Bool, true, List, eqb, length, Result}
use Rattle.std.proofs.Common.{sym, ◌∙◌}
use borrow.Author.Tests.{eqb-true}
use Rattle.area.specs.Limits.{width}
use Rattle.area.specs.Refusals.{verdict_number}
use Rattle.area.specs.declared.refusal.Refusal.{Refusal}
use Rattle.isis.specs.Isis.{area_refusal, isis_refusal}
use Rattle.isis.proofs.IsisLaws.{isis_area}

module _ (n : ℕ) (t d m : List ℕ) (a : length m ≡ width * width) where
  module _
      (v : Result (Unit {0}) Refusal) (told : verdict_number v ≡ area_refusal n t d)
      (ok : Bool) (good : ok ≡ eqb (verdict_number v) 0)
    where
      pub read_answer : verdict_number v ≡ isis_refusal n t d m
      read_answer = told ∙ isis_area n t d m a

      pub read_none : ok ≡ true → area_refusal n t d ≡ 0
      read_none e = sym told ∙ eqb-true (verdict_number v) 0 (sym good ∙ e)
