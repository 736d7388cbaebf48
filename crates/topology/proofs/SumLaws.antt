-- The list `sums` holds the sum of each walk of at most so many links, and nothing else: by induction on the number of
-- links, each way, since a walk stays or takes a link to one of the n routers first.
--     sums_sound           what stands in it is the sum of such a walk
--     sums_complete        and the sum of each such walk stands in it
use Rattle.std.specs.Prelude.{ℕ, zero, suc, ◌+◌, ◌≤◌, ◌≡◌, refl, Bool, true, false, List, [], ◌∷◌, map, ltb, eqb}
use Rattle.std.proofs.Common.{sym, subst, inl, ⊎_elim, arith, ltb-true, eqb-true, lt-ltb, eq-eqb}
use Rattle.std.proofs.lemmas.Bool.{false≢true}
use Rattle.area.specs.Limits.{unused}
use Rattle.area.specs.Lists.{◌∈◌, collect}
use Rattle.area.proofs.MemberLaws.{in_left, in_right, in_either, in_map, of_map, in_collect, of_collect}
use Rattle.topology.specs.Topology.{Topology}
use Rattle.topology.specs.Walk.{Walk, stay, link, sum, links}
use Rattle.topology.specs.Distance.{only, sums_via, sums}
use Rattle.topology.specs.Graph.{Graph}

in_only : (b : Bool) (x : ℕ) (l : List ℕ) → b ≡ true → x ∈ l → x ∈ only b l
in_only true x l e m = m
in_only false x l e m = absurd (false≢true e)

of_only : (b : Bool) (x : ℕ) (l : List ℕ) → x ∈ only b l → (b ≡ true) × (x ∈ l)
of_only true x l m = (refl, m)
of_only false x l m = absurd m

-- a walk of at most h links has the sum s
abbrev pub Within : (g : Topology) (h i j s : ℕ) → Type 0
Within g h i j s = (w : Walk g i j) × (links w ≤ h) × (sum w ≡ s)

sound_stay : (g : Topology) (h i j s : ℕ) → s ∈ only (eqb i j) (0 ∷ []) → Within g h i j s
sound_stay g h i j s m =
    let t = of_only (eqb i j) s (0 ∷ []) m in
    subst (λ (x : ℕ). Within g h i x s) (eqb-true i j t.0)
    (stay, omega arith, ⊎_elim sym (λ z. absurd z) t.1)

sound_link :
    (n : ℕ) (g : Topology) (h i j s : ℕ) (on : ℕ → List ℕ)
    → ((k r : ℕ) → r ∈ on k → Within g h k j r)
    → s ∈ collect n (sums_via g i on)
    → Within g (suc h) i j s
sound_link n g h i j s on ih m =
    let c = of_collect n (sums_via g i on) s m in
    let k = c.0 in
    let o = of_only (ltb (g i k) unused) s (map (λ r. g i k + r) (on k)) c.2 in
    let r = of_map (λ r. g i k + r) s (on k) o.1 in
    let w = ih k r.0 r.1 in
    (link (ltb-true (g i k) unused o.0) w.0, omega (arith, w.1), omega (arith, w.2, r.2))

pub sums_sound : (n : ℕ) (g : Topology) (h i j s : ℕ) → s ∈ sums n g h i j → Within g h i j s
unfolding sums
sums_sound n g zero i j s m = sound_stay g 0 i j s m
sums_sound n g (suc h) i j s m =
    let on : ℕ → List ℕ = λ k. sums n g h k j in
    ⊎_elim (sound_stay g (suc h) i j s) (sound_link n g h i j s on (λ k r. sums_sound n g h k j r))
    (in_either s (only (eqb i j) (0 ∷ [])) (collect n (sums_via g i on)) m)

complete_stay : (n : ℕ) (g : Topology) (h i : ℕ) → 0 ∈ sums n g h i i
unfolding sums
complete_stay n g zero i = in_only (eqb i i) 0 (0 ∷ []) (eq-eqb i i refl) (inl refl)
complete_stay n g (suc h) i =
    in_left 0 (only (eqb i i) (0 ∷ [])) (collect n (sums_via g i (λ k. sums n g h k i)))
    (in_only (eqb i i) 0 (0 ∷ []) (eq-eqb i i refl) (inl refl))

pub sums_complete :
    {n : ℕ} {g : Topology}
    → Graph n g
    → {i j : ℕ} (w : Walk g i j) (h : ℕ)
    → links w ≤ h
    → sum w ∈ sums n g h i j
unfolding sums
sums_complete {n} {g} G (stay {i}) h b = complete_stay n g h i
sums_complete G (link u w) zero b = absurd (omega arith)
sums_complete {n} {g} G {j} (link {i} {k} u w) (suc h) b =
    let via = sums_via g i (λ x. sums n g h x j) in
    let s = g i k + sum w in
    in_right s (only (eqb i j) (0 ∷ [])) (collect n via)
    (in_collect n via k s (G.inside i k u).1
    (in_only (ltb (g i k) unused) s (map (λ r. g i k + r) (sums n g h k j)) (lt-ltb (g i k) unused u)
    (in_map (λ r. g i k + r) (sum w) (sums n g h k j) (sums_complete G w h (omega arith)))))
