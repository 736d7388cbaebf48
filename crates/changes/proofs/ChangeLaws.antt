-- Laws of the change list: a change is refused as any entry of a list is (entries/specs/Entries.antt).
--     change_of, change_faultless          a change is not refused exactly where it has no fault
--     sound_of, of_sound                   the same of the whole list
--     first_refused                        the first refusal is the answer
--     refused                              the laws that decide the answer on one change
use Rattle.std.specs.Prelude.{ℕ, ◌<◌, ◌≡◌, ◌≢◌, List}
use Rattle.std.proofs.Common.{sym, ◌∙◌, arith}
use Rattle.std.proofs.lemmas.Grind.{common_steps}
use Rattle.area.specs.declared.refusal.Refusal.{Refusal}
use Rattle.area.specs.Refusals.{refusal_number}
use Rattle.area.specs.Tests.{first}
use Rattle.area.proofs.RefusalLaws.{refusal_positive}
use Rattle.area.proofs.TestLaws.{first_none, first_fault, none_first}
use Rattle.entries.specs.Entries.{entry_count, entry_of, listed_refusal}
use Rattle.entries.proofs.EntryLaws.{faultless, listed_faulty, listed_repeated, listed_passes, listed_sound}
use Rattle.changes.specs.Sound.{Change, Sound}

-- ---- a change that has no fault
pub change_of : (n : ℕ) (l : List ℕ) (e : ℕ) → listed_refusal n l e ≡ 0 → Change n l e
change_of n l e z =
    let s = listed_sound n l e z in
    record {
      from_in = s.0.from_in;
      to_in = s.0.to_in;
      apart = s.0.apart;
      some = s.0.some;
      new = s.1;
    }

pub change_faultless : (n : ℕ) (l : List ℕ) (e : ℕ) → Change n l e → listed_refusal n l e ≡ 0
change_faultless n l e c =
    listed_passes n l e (faultless n (entry_of l e) c.from_in c.to_in c.apart c.some) c.new

-- where no fault is found every change is sound, and the other way round
pub sound_of : (n : ℕ) (l : List ℕ) → first (entry_count l) (listed_refusal n l) ≡ 0 → Sound n l
sound_of n l z e h = change_of n l e (none_first (listed_refusal n l) (entry_count l) z e h)

pub of_sound : (n : ℕ) (l : List ℕ) → Sound n l → first (entry_count l) (listed_refusal n l) ≡ 0
of_sound n l s = first_none (listed_refusal n l) (entry_count l) (λ e h. change_faultless n l e (s e h))

-- the first refusal is the answer
pub first_refused :
    (n : ℕ) (l : List ℕ) (e : ℕ) (k : Refusal)
    → e < entry_count l
    → ((d : ℕ) → d < e → listed_refusal n l d ≡ 0)
    → refusal_number k ≡ listed_refusal n l e
    → refusal_number k ≡ first (entry_count l) (listed_refusal n l)
first_refused n l e k h before is =
    let bad : listed_refusal n l e ≢ 0 = λ z. omega (arith, refusal_positive k, is, z) in
    is ∙ sym (first_fault (listed_refusal n l) e (entry_count l) h before bad)

-- the answer on one change, by the refusal of the change itself and then by its pair
pub ruleset refused = (listed_faulty, listed_repeated, listed_passes, refusal_positive, common_steps)
