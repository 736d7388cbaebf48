use Rattle.std.proofs.Common.{ℕ, ◌<◌, get_or, arith, rules}
use Rattle.sets.proofs.MembersLaws.{loop_turn, loop_more, loop_end}
use Rattle.ranks.proofs.RankLaws.{above_le, above_least}
use Rattle.ranks.proofs.after.Goals as goal

pub loop-s-preserved-then-s-n : goal.loop-s-preserved-then-s-n
loop-s-preserved-then-s-n c =
    let a = c.args in
    let f : ℕ → ℕ = λ k. get_or a.ranks.now k 0 in
    let at = c.loop-s in
    let s = c.in-Some.s in
    let turn = loop_turn at.yielded _ _ a.set (search rules) at.yielded_by _ _ c.in-Some.ensures.steps in
    record {
      come = loop_more (λ k. k < a.n → f k < c.max-most.result) at.yielded s at.invariant.come
          (λ k o h l. omega (arith, h l)) (λ l. omega arith);
      bound = omega (arith, at.invariant.bound, above_le a.n a.set f s c.if-s-n.true turn.member);
    }

pub loop-s-preserved : goal.loop-s-preserved
loop-s-preserved c =
    let f : ℕ → ℕ = λ k. get_or c.args.ranks.now k 0 in
    record {
      come = loop_more (λ k. k < c.args.n → f k < c.loop-s.most) c.loop-s.yielded c.in-Some.s c.loop-s.invariant.come
          (λ k o h. h) (λ l. absurd (omega (arith, l, c.if-s-n.false)));
      bound = c.loop-s.invariant.bound;
    }

pub returns : goal.returns
returns c =
    let a = c.args in
    let f : ℕ → ℕ = λ k. get_or a.ranks.now k 0 in
    let at = c.loop-s in
    let all = loop_end at.yielded _ _ a.set (search rules) at.yielded_by c.in-None.ensures.steps.0 (omega arith) in
    omega (arith, at.invariant.bound, above_least a.n a.set f at.most (λ k l b. at.invariant.come k (all k b) l))
