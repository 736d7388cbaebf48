-- What is read from the table of a function: its entries are the function's, and so are the sets that they are in.
use Rattle.std.proofs.Common.{ℕ, ◌≤◌, ◌<◌, ◌≡◌, ap, ◌∙◌, List, get_or}
use Rattle.area.specs.Tables.{per_router}
use Rattle.area.proofs.PerRouterLaws.{per_at}
use Rattle.ranks.specs.Rank.{rank}
use Rattle.order.specs.Order.{telling_by}
use Rattle.order.proofs.OrderLaws.{telling_same, ranks_same}

module _ (w n : ℕ) (f : ℕ → ℕ) (t : List ℕ) (most : n ≤ w) (e : t ≡ per_router w n f) where
  entry_of : (s : ℕ) → s < n → get_or t s 0 ≡ f s
  entry_of s h = ap (λ (x : List ℕ). get_or x s 0) e ∙ per_at w n f s h most

  pub converse_of : per_router w n (telling_by n (λ s. get_or t s 0)) ≡ per_router w n (telling_by n f)
  converse_of = telling_same w n (λ s. get_or t s 0) f most entry_of

  pub ranks_of_lem : per_router w n (rank n (λ s. get_or t s 0)) ≡ per_router w n (rank n f)
  ranks_of_lem = ranks_same w n (λ s. get_or t s 0) f most entry_of
