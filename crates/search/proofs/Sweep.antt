-- A loop that goes through two rows from the front, cell j in turn j. A turn writes no cell but its own: so what was
-- done to the cells below j stays, and each cell from j on is as it was when its turn comes.
--     Swept R d₀ h₀ d h j    two rows were d₀ and h₀: the cells below j were changed as R allows, the others not
-- It holds at the start (`swept_none`), and after one turn more (`swept_more`; `swept_same` where nothing was written).
use mathlib.Core.Path.{◌≡◌, refl, ◌∙◌}
use mathlib.Core.Logic.{◌≢◌}
use mathlib.Core.List.{List}
use Prim.Native.Nat.{ℕ, ◌+◌, ◌<◌, ◌≤◌}
use native.Mathlib.Omega.{arith}
use borrow.Author.Count.{below_none, below_more}
use lib.ListN.{length, get_or}

module _ (R : ℕ → ℕ → ℕ → ℕ → ℕ → Type 0) (d₀ h₀ : List ℕ) where
  pub record Swept (d h : List ℕ) (j : ℕ) : Type 0 where
    pub len : length d ≡ length d₀
    pub len_h : length h ≡ length h₀
    pub done : (k : ℕ) → k < j → R k (get_or d₀ k 0) (get_or h₀ k 0) (get_or d k 0) (get_or h k 0)
    pub rest : (k : ℕ) → j ≤ k → (get_or d k 0 ≡ get_or d₀ k 0) × (get_or h k 0 ≡ get_or h₀ k 0)

  pub swept_none : Swept d₀ h₀ 0
  swept_none = record { len = refl; len_h = refl; done = below_none _; rest = λ k l. (refl, refl) }

  -- the rows d' and h' that a turn leaves: only the cells of j may have changed, and those as R allows
  pub swept_more :
      (d h d' h' : List ℕ) (j : ℕ)
      → Swept d h j
      → length d' ≡ length d
      → length h' ≡ length h
      → R j (get_or d j 0) (get_or h j 0) (get_or d' j 0) (get_or h' j 0)
      → ((k : ℕ) → k ≢ j → (get_or d' k 0 ≡ get_or d k 0) × (get_or h' k 0 ≡ get_or h k 0))
      → Swept d' h' (j + 1)
  swept_more d h d' h' j s ld lh new same = record {
    len = ld ∙ s.len;
    len_h = lh ∙ s.len_h;
    done =
        below_more (λ k. R k (get_or d₀ k 0) (get_or h₀ k 0) (get_or d' k 0) (get_or h' k 0)) j
        (λ k b. let e = same k (λ q. let x : ⊥ = omega arith in x) in rw (e.0, e.1) (s.done k b))
        (let f = s.rest j (omega arith) in rw (f.0, f.1) at new);
    rest = λ k b.
        let e = same k (λ q. let x : ⊥ = omega arith in x) in
        let f = s.rest k (omega arith) in
        (e.0 ∙ f.0, e.1 ∙ f.1);
  }

  -- a turn that changes nothing
  pub swept_same :
      (d h : List ℕ) (j : ℕ)
      → Swept d h j
      → R j (get_or d j 0) (get_or h j 0) (get_or d j 0) (get_or h j 0)
      → Swept d h (j + 1)
  swept_same d h j s new = swept_more d h d h j s refl refl new (λ k f. (refl, refl))
