-- Tests, and what is chosen by them. A test is true or false: `ltb a b` tests a < b, `leb a b` tests a ≤ b, `eqb a b`
-- tests a = b.
use Rattle.std.specs.Prelude.{ℕ, zero, suc, Bool, true, false, ◌&&◌, eqb, ltb}

-- a where the test holds, and b where it does not
abbrev pub pick : {A : Type 0} (test : Bool) (a b : A) → A
pick true a b = a
pick false a b = b

-- the test p holds of every number below n
unfoldable pub all : (n : ℕ) (p : ℕ → Bool) → Bool
all zero p = true
all (suc n) p = all n p && p n

-- the refusal a, and b where a is none; 0 stands for none
abbrev pub or_then : (a b : ℕ) → ℕ
or_then a b = pick (eqb a 0) b a

-- the first of the refusals f 0, f 1, .. f (n - 1); 0 where each of them is none
unfoldable pub first : (n : ℕ) (f : ℕ → ℕ) → ℕ
first zero f = 0
first (suc n) f = or_then (first n f) (f n)

-- the lowest number below n that passes the test p, and n where none does
unfoldable pub lowest : (n : ℕ) (p : ℕ → Bool) → ℕ
lowest zero p = 0
lowest (suc n) p = pick (ltb (lowest n p) n) (lowest n p) (pick (p n) n (suc n))
