-- Lists of numbers: what stands in one, that none stands in it twice, that all are below n; and lists joined.
use Rattle.std.specs.Prelude.{ℕ, zero, suc, ◌<◌, ◌≡◌, ◌⊎◌, List, [], ◌∷◌, ◌++◌}

-- x stands in the list
infix 20 ◌∈◌
abbrev pub ◌∈◌ : (x : ℕ) (l : List ℕ) → Type 0
x ∈ [] = ⊥
x ∈ (y ∷ l) = (x ≡ y) ⊎ (x ∈ l)

-- no number stands in the list twice; `Unit` always holds
abbrev pub Distinct : (l : List ℕ) → Type 0
Distinct [] = Unit {0}
Distinct (x ∷ l) = (x ∈ l → ⊥) × Distinct l

-- each number of the list is below n
abbrev pub Below : (n : ℕ) (l : List ℕ) → Type 0
Below n l = (x : ℕ) → x ∈ l → x < n

-- f 0, f 1, .. f (n - 1), one list after another
abbrev pub collect : (n : ℕ) (f : ℕ → List ℕ) → List ℕ
collect zero f = []
collect (suc n) f = collect n f ++ f n
