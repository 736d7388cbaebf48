-- After four turns of `rest` all but the four lowest are left.
use Rattle.std.proofs.Common.{◌≡◌, ap, ◌∙◌, ℕ, suc}
use Rattle.area.specs.Limits.{width}
use Rattle.sets.specs.Sets.{without}
use Rattle.sets.specs.Four.{four, beyond}
use Rattle.sets.proofs.FourLaws.{beyond_next, beyond_four}
use Rattle.sets.proofs.four.Goals as goal

-- what four calls of `rest` and one of `without` give
taken :
    (w s a b c d r : ℕ)
    → a ≡ beyond w 1 s
    → b ≡ beyond w 1 a
    → c ≡ beyond w 1 b
    → d ≡ beyond w 1 c
    → r ≡ without w s d
    → r ≡ four w s
taken w s a b c d r p q t u e =
    let next : (i x y : ℕ) → x ≡ beyond w i s → y ≡ beyond w 1 x → y ≡ beyond w (suc i) s =
    λ i x y f g. g ∙ ap (beyond w 1) f ∙ beyond_next w s i in
    let all = next 3 c d (next 2 b c (next 1 a b p q) t) u in
    e ∙ ap (without w s) all ∙ beyond_four w s

pub returns : goal.returns
returns c =
    record {
      set =
          taken width _ _ _ _ _ _ c.rest-from_second.ensures.set c.rest-from_third.ensures.set
          c.rest-from_fourth.ensures.set c.rest.ensures.set c.without.ensures.set;
    }
