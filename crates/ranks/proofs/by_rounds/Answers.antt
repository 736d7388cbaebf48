use Rattle.std.proofs.Common.{◌≡◌, ℕ, suc, ◌+◌, ◌-◌, List, ap, sym, ◌∙◌, get_or, arith}
use Rattle.std.specs.Cmp.Lexicographic.{same_text}
use Rattle.area.specs.Limits.{width}
use Rattle.ranks.specs.Rank.{rank}
use Rattle.ranks.proofs.Rounds.{made_none, made_le, made_more, made_stays}
use Rattle.ranks.proofs.by_rounds.Goals as goal

pub loop-init : goal.loop-init
loop-init c = record { few = omega arith; made = made_none width _ _ }

pub longer-next-requires : goal.longer-next-requires
longer-next-requires c =
    let w : ℕ → ℕ = λ r. get_or c.args.waiting.now r 0 in
    let low = made_le width c.args.n w (omega arith) (c.loop.counter - 1) c.loop.ranks c.loop.invariant.made in
    (omega arith, λ s l. omega (arith, low s l))

pub returns-then-eq : goal.returns-then-eq
unfolding rank
returns-then-eq c =
    let w : ℕ → ℕ = λ r. get_or c.args.waiting.now r 0 in
    let same = sym (same_text _ _ c.if-eq.ensures) in
    made_stays width c.args.n w (omega arith) (c.loop.counter - 1) c.loop.ranks c.loop.invariant.made
    c.longer-next.result c.longer-next.ensures (λ s l. ap (λ (t : List ℕ). get_or t s 0) same)
    (c.args.n - 1) (omega arith)

pub loop-preserved : goal.loop-preserved
loop-preserved c =
    let e : c.loop.counter + 1 - 1 ≡ suc (c.loop.counter - 1) = omega arith in
    let w : ℕ → ℕ = λ r. get_or c.args.waiting.now r 0 in
    let more = made_more width c.args.n w (omega arith) (c.loop.counter - 1) c.loop.ranks c.loop.invariant.made in
    record { few = omega arith; made = rw e (c.longer-next.ensures ∙ more) }

pub returns : goal.returns
unfolding rank
returns c =
    let e : c.loop.counter - 1 ≡ c.args.n - 1 = omega arith in
    rw e at c.loop.invariant.made
