-- Laws of what is written for an input.
--     text_written, text_error         for a text that is not longer than what is read
--     binary_written, binary_error     for what is no text
--     written_first, error_first       what is read of an input decides
--     written_room     so many bytes have room for all that is written
--     file_through     a bench file of either format that is accepted goes through as it is
--     hexed_through    the text of a list of bytes gives these bytes
use Rattle.std.specs.Prelude.{ℕ, ◌+◌, ◌≤◌, ◌<◌, ◌≡◌, Bool, cond, List, get_or}
use Rattle.std.proofs.Math.Path.{refl}
use Rattle.std.proofs.Common.{◌∙◌, arith, length-take, take_all}
use Rattle.std.proofs.Math.Bool.{true, false}
use Rattle.std.proofs.Math.ListN.{length}
use Rattle.bench_file.specs.declared.Format.{Format}
use Rattle.bench_file.specs.Faults.{file_refusal}
use Rattle.bench_file.proofs.FaultLaws.{accepted_of}
use Rattle.bench_file.proofs.FileLaws.{accepted_largest}
use Rattle.hexadecimal.specs.Hex.{most, unhexed, is_faulty, is_text}
use Rattle.hexadecimal.specs.Digits.{hexed}
use Rattle.hexadecimal.proofs.HexLaws.{room, length_hexed, unhexed_fits, unhexed_hexed}
use Rattle.hexadecimal.proofs.FaultLaws.{hexed_sound, unhexed_first, faulty_first}
use Rattle.hexadecimal.proofs.BinaryLaws.{accepted_binary, hexed_text}
use Rattle.unhex.specs.Unhex.{part, written, is_error}

-- ---- an input that is read as a whole
module _ (l : List ℕ) (short : length l ≤ most + 1) where
  all : part l ≡ l
  all = take_all (most + 1) l short

  pub text_written : is_text l ≡ true → written l ≡ unhexed l
  unfolding written
  text_written is = rw (all, is) refl

  pub text_error : is_text l ≡ true → is_error l ≡ is_faulty l
  unfolding is_error
  text_error is = rw (all, is) refl

  pub binary_written : is_text l ≡ false → written l ≡ l
  unfolding written
  binary_written none = rw (all, none) refl

  pub binary_error : is_text l ≡ false → is_error l ≡ false
  unfolding is_error
  binary_error none = rw (all, none) refl

-- ---- every input
module _ (f : List ℕ) where
  part_short : length (part f) ≤ most + 1
  part_short = omega (arith, length-take (most + 1) f)

  again : part (part f) ≡ part f
  again = all (part f) part_short

  pub written_first : written (part f) ≡ written f
  unfolding written
  written_first = rw (again, unhexed_first (most + 1) f (omega arith)) refl

  pub error_first : is_error (part f) ≡ is_error f
  unfolding is_error
  error_first = rw (again, faulty_first (most + 1) f (omega arith)) refl

  pub written_room : length (written f) ≤ most + 1
  unfolding written
  written_room = by_test (is_text (part f))
    where
      by_test : (t : Bool) → length (cond t (unhexed f) (part f)) ≤ most + 1
      by_test true = omega (arith, unhexed_fits f)
      by_test false = part_short

-- ---- the two forms of a bench file
pub file_through :
    (format : Format) (f : List ℕ)
    → file_refusal format f ≡ 0
    → (written f ≡ f) × (is_error f ≡ false)
file_through format f z =
    let short : length f ≤ most + 1 = omega (arith, accepted_largest format f (accepted_of format f z)) in
    let none = accepted_binary format f z in
    (binary_written f short none, binary_error f short none)

pub hexed_through :
    (l : List ℕ)
    → length l ≤ room
    → ((k : ℕ) → get_or l k 0 < 256)
    → (written (hexed l) ≡ l) × (is_error (hexed l) ≡ false)
hexed_through l h small =
    let short : length (hexed l) ≤ most + 1 = omega (arith, length_hexed l) in
    let is = hexed_text l in (
      text_written (hexed l) short is ∙ unhexed_hexed l h small,
      text_error (hexed l) short is ∙ hexed_sound l h small,
    )
