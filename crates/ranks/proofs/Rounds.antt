-- The rounds in which ranks are found.
--     Made             the table after h rounds: each router has the links of its longest chain of at most h
--     made_none, made_more     it holds of zeros and no round, and of one round more after a round
--     made_le          after h rounds no rank is more than h, so that one more fits a byte
--     made_stays       a round that changes nothing is the last that is needed
use Rattle.std.proofs.Common.{ℕ, suc, ◌≤◌, ◌<◌, ◌≡◌, sym, ap, ◌∙◌, List, arith, get_or, replicate}
use Rattle.std.proofs.Math.ListN.{length-replicate, get_or-replicate}
use Rattle.area.specs.Tables.{per_router}
use Rattle.area.proofs.PerRouterLaws.{per_at, per_same, is_per}
use Rattle.ranks.specs.Rank.{above, longest}
use Rattle.ranks.proofs.RankLaws.{above_same, longest_le, longest_stays}

abbrev pub Made : (width n : ℕ) (w : ℕ → ℕ) (h : ℕ) (ranks : List ℕ) → Type 0
Made width n w h ranks = ranks ≡ per_router width n (longest n w h)

module _ (width n : ℕ) (w : ℕ → ℕ) where
  pub made_none : Made width n w 0 (replicate width 0)
  unfolding longest
  made_none =
      is_per width n (longest n w 0) (replicate width 0) (length-replicate width 0)
      (λ r a b. get_or-replicate width r 0 0 a) (λ r a b. get_or-replicate width r 0 0 a)

  module _ (most : n ≤ width) (h : ℕ) (ranks : List ℕ) (made : Made width n w h ranks) where
    at : (s : ℕ) → s < n → get_or ranks s 0 ≡ longest n w h s
    at s l = ap (λ (t : List ℕ). get_or t s 0) made ∙ per_at width n (longest n w h) s l most

    pub made_le : (s : ℕ) → s < n → get_or ranks s 0 ≤ h
    made_le s l = omega (arith, at s l, longest_le n w h s)

    pub made_more : Made width n w (suc h) (per_router width n (λ r. above n (w r) (λ s. get_or ranks s 0)))
    unfolding longest
    made_more =
        per_same width n (λ r. above n (w r) (λ s. get_or ranks s 0)) (longest n w (suc h)) most
        (λ r l. above_same n (w r) (λ s. get_or ranks s 0) (longest n w h) at)

    -- where the next round changes no rank, no later one does
    pub made_stays :
        (next : List ℕ)
        → next ≡ per_router width n (λ r. above n (w r) (λ s. get_or ranks s 0))
        → ((s : ℕ) → s < n → get_or ranks s 0 ≡ get_or next s 0)
        → (k : ℕ) → h ≤ k
        → Made width n w k ranks
    made_stays next e same k b =
        let more : (r : ℕ) → r < n → get_or next r 0 ≡ longest n w (suc h) r =
        λ r l. ap (λ (t : List ℕ). get_or t r 0) (e ∙ made_more) ∙ per_at width n (longest n w (suc h)) r l most in
        let stays : (r : ℕ) → r < n → longest n w k r ≡ longest n w h r =
        longest_stays n w h (λ s m. sym (same s m ∙ more s m) ∙ at s m) k b in
        made ∙ per_same width n (longest n w h) (longest n w k) most (λ r l. sym (stays r l))
