-- How many: sums over the routers below n, and the number of members of a set.
use Rattle.std.specs.Prelude.{ℕ, zero, suc, ◌+◌}
use Rattle.sets.specs.Sets.{num, bit}

-- f 0 + f 1 + .. + f (n - 1)
unfoldable pub total : (n : ℕ) (f : ℕ → ℕ) → ℕ
total zero f = 0
total (suc n) f = total n f + f n

-- how many routers below w are members of s
unfoldable pub size : (w s : ℕ) → ℕ
size w s = total w (λ k. num (bit s k))
