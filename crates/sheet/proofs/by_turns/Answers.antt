-- After each turn one more place has its router, and the set `placed` one more member.
use Rattle.std.proofs.Common.{◌≡◌, ℕ, ◌+◌, refl, ap, ap₂, ◌∙◌, arith, add-one, get_or}
use Rattle.area.specs.Limits.{width}
use Rattle.area.proofs.PerRouterLaws.{filled_none, filled_more, filled_all}
use Rattle.sets.specs.Sets.{added}
use Rattle.sheet.specs.Sheet.{next_after, placed, place_at}
use Rattle.sheet.proofs.by_turns.Goals as goal

module _ (n : ℕ) (w : ℕ → ℕ) where
  placed_none : 0 ≡ placed n w 0
  unfolding placed
  placed_none = refl

  placed_more :
      (k members next more : ℕ)
      → members ≡ placed n w k
      → next ≡ next_after n w members
      → more ≡ added width members next
      → more ≡ placed n w (k + 1)
  unfolding placed
  placed_more k members next more t e f =
      rw add-one (f ∙ ap₂ (added width) t (e ∙ ap (next_after n w) t))

pub loop-k-init : goal.loop-k-init
loop-k-init c = record { are = placed_none _ _; filled = filled_none width _ }

pub loop-k-preserved : goal.loop-k-preserved
loop-k-preserved c =
    let w = λ (r : ℕ). get_or c.args.waiting.now r 0 in
    let next = c.next_after-next.ensures.1 in
    record {
      are = placed_more c.args.n w c.loop-k.k _ _ _ c.loop-k.invariant.are next c.add-placed.ensures.set;
      filled =
          filled_more width c.loop-k.k (place_at c.args.n w) c.loop-k.routers _ c.loop-k.invariant.filled
          (omega arith) (next ∙ ap (next_after c.args.n w) c.loop-k.invariant.are);
    }

pub returns : goal.returns
returns c =
    let e : c.loop-k.k ≡ c.args.n = omega arith in
    filled_all width _ _ c.loop-k.routers (rw e at c.loop-k.invariant.filled)
