-- Laws of walks along any pointers p.
--     along_join, last_join    one walk after another
--     along_below      where pointers lead only to routers below n, a walk meets no others
--     no_return        where no walk comes back to its start, no walk meets a router twice
use Rattle.std.specs.Prelude.{ℕ, ◌<◌, ◌≡◌, refl, true, ◌≢◌, List, [], ◌∷◌, ◌++◌}
use Rattle.std.proofs.Common.{sym, inl, inr, arith}
use Rattle.area.specs.Lists.{◌∈◌, Below}
use Rattle.sets.specs.Sets.{bit}
use Rattle.convergence.specs.Pointers.{Pointers, Along, last, NoRouterTwice}

module _ (p : Pointers) where
  pub along_join : (x : ℕ) (l m : List ℕ) → Along p x l → Along p (last x l) m → Along p x (l ++ m)
  along_join x [] m a b = b
  along_join x (k ∷ l) m a b = (a.0, along_join k l m a.1 b)

  pub along_below :
      (n : ℕ)
      → ((x k : ℕ) → bit (p x) k ≡ true → k < n)
      → (x : ℕ) (l : List ℕ)
      → x < n
      → Along p x l
      → Below n (x ∷ l)
  along_below n f x [] b a y (inl e) = omega arith
  along_below n f x [] b a y (inr m) = absurd m
  along_below n f x (k ∷ l) b a y (inl e) = omega arith
  along_below n f x (k ∷ l) b a y (inr m) = along_below n f k l (f x k a.0) a.1 y m

  -- a walk, up to a router that it meets
  up_to :
      (x : ℕ) (l : List ℕ)
      → Along p x l
      → (y : ℕ)
      → y ∈ (x ∷ l)
      → (m : List ℕ) × Along p x m × (last x m ≡ y)
  up_to x [] a y (inl e) = ([], tt, sym e)
  up_to x [] a y (inr m) = absurd m
  up_to x (k ∷ l) a y (inl e) = ([], tt, sym e)
  up_to x (k ∷ l) a y (inr m) = let t = up_to k l a.1 y m in (k ∷ t.0, (a.0, t.1), t.2)

  pub no_return :
      ((x k : ℕ) (l : List ℕ) → bit (p x) k ≡ true → Along p k l → last k l ≢ x)
      → NoRouterTwice p
  no_return f x [] a = ((λ m. m), tt)
  no_return f x (k ∷ l) a =
      ((λ m. let t = up_to k l a.1 x m in f x k t.0 a.0 t.1 t.2), no_return f k l a.1)

pub last_join : (x : ℕ) (l m : List ℕ) → last x (l ++ m) ≡ last (last x l) m
last_join x [] m = refl
last_join x (k ∷ l) m = last_join k l m
