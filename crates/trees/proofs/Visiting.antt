-- A loop over the members of a set, the lowest first: the one that comes next is a router.
--     lowest_inside    the lowest member of those that are left
--     turn_inside      the same of `for k in members(set)`
use Rattle.std.specs.Prelude.{◌≡◌, ◌<◌, ◌^◌, ◌≢◌, ℕ, List, ◌∷◌}
use Rattle.std.proofs.Common.{refl, inl}
use Rattle.area.specs.Limits.{width}
use Rattle.area.specs.Tests.{lowest}
use Rattle.sets.specs.Sets.{bit}
use Rattle.sets.specs.Members.{members}
use Rattle.sets.proofs.MembersLaws.{in_members}
use Rattle.sets.proofs.VisitLaws.{visit_member}

pub lowest_inside : (left : ℕ) → left < 2 ^ width → left ≢ 0 → lowest width (bit left) < width
lowest_inside left fits some = (visit_member width left _ fits some refl).0

pub turn_inside : (left q : ℕ) (l : List ℕ) → members width left ≡ q ∷ l → q < width
turn_inside left q l e = (in_members left width q (rw e (inl refl))).0
