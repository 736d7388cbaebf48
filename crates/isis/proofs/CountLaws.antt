-- How many lists begin at a place of the bytes d or behind it.
--     count_start      at the first place: all of them
--     count_end        at the end of the bytes: none
--     count_more       before it: one, and those behind that one
use Prim.Native.Nat.{ℕ, zero, suc, ◌+◌, ◌≤◌, ◌<◌}
use Rattle.std.specs.Prelude.{◌≡◌, List, ltb, length}
use Rattle.std.proofs.Math.Path.{refl, ap}
use Rattle.std.proofs.Common.{◌∙◌, arith}
use borrow.Author.Tests.{lt-ltb, le-ltb}
use Rattle.area.specs.Bytes.{two}
use Rattle.area.specs.Tests.{pick}
use Rattle.isis.specs.Lists.{count_from, list_count}

module _ (d : List ℕ) where
  -- there are not more of them than bytes
  enough : (h k p : ℕ) → length d ≤ p + h → length d ≤ p + k → count_from d h p ≡ count_from d k p
  unfolding count_from
  enough zero zero p a b = refl
  enough zero (suc k) p a b = rw (le-ltb p (length d) (omega arith)) refl
  enough (suc h) zero p a b = rw (le-ltb p (length d) (omega arith)) refl
  enough (suc h) (suc k) p a b =
      ap (λ (x : ℕ). pick (ltb p (length d)) (suc x) 0)
      (enough h k (p + 2 + two d p) (omega arith) (omega arith))

  -- those from place p on
  abbrev pub count_at : (p : ℕ) → ℕ
  count_at p = count_from d (length d) p

  opened : (p : ℕ) → count_at p ≡ pick (ltb p (length d)) (suc (count_at (p + 2 + two d p))) 0
  unfolding count_from
  opened p = enough (length d) (suc (length d)) p (omega arith) (omega arith)

  pub count_start : count_at 0 ≡ list_count d
  unfolding list_count
  count_start = refl

  pub count_end : (p : ℕ) → length d ≤ p → count_at p ≡ 0
  count_end p h = opened p ∙ rw (le-ltb p (length d) h) refl

  pub count_more : (p : ℕ) → p < length d → count_at p ≡ suc (count_at (p + 2 + two d p))
  count_more p h = opened p ∙ rw (lt-ltb p (length d) h) refl
