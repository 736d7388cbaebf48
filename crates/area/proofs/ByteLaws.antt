-- Laws of numbers in bytes.
--     byte_missing, two_missing    past the end of the list there is 0
--     byte_same                    bytes of a number are known by it: for each further byte, high bytes first
use Rattle.std.specs.Prelude.{ℕ, ◌+◌, ◌*◌, ◌≤◌, ◌<◌, ◌≡◌, List, length, get_or}
use Rattle.std.proofs.Common.{sym, arith}
use Rattle.std.proofs.Math.ListN.{get_or-eq_default}
use Rattle.area.specs.Bytes.{two}

pub byte_missing : (l : List ℕ) (p : ℕ) → length l ≤ p → 0 ≡ get_or l p 0
byte_missing l p h = sym (get_or-eq_default l 0 {n = p} h)

pub two_missing : (l : List ℕ) (p : ℕ) → length l ≤ p → 0 ≡ two l p
two_missing l p h = omega (arith, byte_missing l p h, byte_missing l (p + 1) (omega arith))

-- two numbers are equal exactly if their last bytes and what stands before them are
pub byte_same : (a b x y : ℕ) → x < 256 → y < 256 → 256 * a + x ≡ 256 * b + y → (a ≡ b) × (x ≡ y)
byte_same a b x y h k e = (omega arith, omega arith)
