-- What the code speaks of besides: a byte that waits for its low half, a digit's value, and faults.
use Rattle.std.specs.Prelude.{ℕ, cond, ltb, List}
use Rattle.std.specs.declared.option.Option.{Option}
use Rattle.std.specs.declared.option.Option.TheVariants.{None, Some}
use Rattle.text.specs.Text.{line}
use Rattle.hexadecimal.specs.declared.Fault.{Fault}
use Rattle.hexadecimal.specs.declared.Fault.TheVariants.{TooLong, Bad, Odd}
use Rattle.hexadecimal.specs.declared.Reading.{Reading}
use Rattle.hexadecimal.specs.declared.Reading.TheVariants.{Between, Comment, High, Byte}
use Rattle.hexadecimal.specs.declared.Reading.TheVariants as reading
use Rattle.hexadecimal.specs.Hex.{digit, too_long, bad_digit, odd_digit}

-- the high half that waits for its low half, and 0 where there is none
unfoldable pub high_half : (r : Reading) → ℕ
high_half Between = 0
high_half Comment = 0
high_half (High h) = h
high_half (Byte x) = 0
high_half reading.Bad = 0
high_half reading.Odd = 0

-- the value of a byte that is a digit
unfoldable pub digit_value : (b : ℕ) → Option ℕ
digit_value b = cond (ltb (digit b) 16) (Some (digit b)) None

-- the line that says a fault
unfoldable pub fault_line : (x : Fault) → List ℕ
fault_line TooLong = too_long
fault_line (Bad at) = line bad_digit at
fault_line (Odd at) = line odd_digit at
