-- The converse of a table of sets, made by entering router s at each member of its set, for one s after another.
--     Entering, entering_start, entering_next, entering_skip, entering_end     the loop over the members
--     Held, held_none, held_more, held_all     the loop over the routers; then the table is the converse
use Rattle.std.specs.Prelude.{ℕ, ◌+◌, ◌≤◌, ◌<◌, ◌≡◌, refl, Bool, true}
use Rattle.std.specs.Prelude.{List, [], ◌∷◌, ◌++◌, length, get_or, set, replicate}
use Rattle.std.proofs.Common.{sym, ap, ◌∙◌, inl, ⊎_elim, arith, length-set, get_or-set_same, get_or-set_other}
use Rattle.std.proofs.lemmas.Bool.{false≢true}
use Rattle.std.proofs.lemmas.List.{length-replicate}
use Rattle.area.specs.Lists.{◌∈◌}
use Rattle.area.proofs.MemberLaws.{in_left, in_right}
use Rattle.area.proofs.TestLaws.{look}
use Rattle.area.specs.Tables.{per_router}
use Rattle.area.proofs.PerRouterLaws.{is_per, zeros_at}
use Rattle.sets.specs.Sets.{bit, set_of, added}
use Rattle.sets.proofs.SetLaws.{set_of_start, set_of_skip, set_of_more}
use Rattle.sets.proofs.MembersLaws.{loop_more}
use Rattle.order.specs.Order.{telling_by}
use Rattle.order.specs.Entered.{Entered}

-- ---- one router
-- what `Entered` says, of the members xs that have come
pub record Entering (w n s : ℕ) (xs was t : List ℕ) : Type 0 where
  pub size : length t ≡ length was
  pub held : (r : ℕ) → r ∈ xs → r < n → get_or t r 0 ≡ added w (get_or was r 0) s
  pub kept : (r : ℕ) → ((r < n) × (r ∈ xs) → ⊥) → get_or t r 0 ≡ get_or was r 0

module _ (w n s : ℕ) (was : List ℕ) where
  pub entering_start : Entering w n s [] was was
  entering_start = record { size = refl; held = λ r m. absurd m; kept = λ r f. refl }

  module _ (xs t : List ℕ) (q : ℕ) (i : Entering w n s xs was t) where
    before : (r : ℕ) → ((r < n) × (r ∈ (xs ++ q ∷ [])) → ⊥) → get_or t r 0 ≡ get_or was r 0
    before r f = i.kept r (λ p. f (p.0, in_left r xs (q ∷ []) p.1))

    pub entering_skip : n ≤ q → Entering w n s (xs ++ q ∷ []) was t
    entering_skip h = record {
      size = i.size;
      held = loop_more (λ r. r < n → get_or t r 0 ≡ added w (get_or was r 0) s) xs q i.held
          (λ r o e. e) (λ l. absurd (omega arith));
      kept = before;
    }

    -- q comes once, and is the last
    pub entering_next :
        (v : ℕ)
        → n ≤ length was
        → q < n
        → ((r : ℕ) → r ∈ xs → r < q)
        → v ≡ added w (get_or t q 0) s
        → Entering w n s (xs ++ q ∷ []) was (set t q v)
    entering_next v room h last a =
        let first = i.kept q (λ p. let x : ⊥ = omega (arith, last q p.1) in x) in
        record {
          size = simp length-set i.size;
          held = loop_more (λ r. r < n → get_or (set t q v) r 0 ≡ added w (get_or was r 0) s) xs q i.held
              (λ r o e l. get_or-set_other t q r v 0 (λ p. omega (arith, last r o, p)) ∙ e l)
              (λ l. get_or-set_same t q v 0 (omega (arith, i.size)) ∙ a ∙ ap (λ (y : ℕ). added w y s) first);
          kept = λ r f.
              get_or-set_other t q r v 0 (λ p. f (rw p h, in_right r xs (q ∷ []) (inl p))) ∙ before r f;
        }

  pub entering_end :
      {x : ℕ} {xs t : List ℕ}
      → Entering w n s xs was t
      → ((r : ℕ) → r ∈ xs → bit x r ≡ true)
      → ((r : ℕ) → bit x r ≡ true → r ∈ xs)
      → Entered w n x s was t
  entering_end i come all = record {
    size = i.size;
    held = λ r l e. i.held r (all r e) l;
    kept = λ r f. i.kept r (λ p. f (p.0, come r p.1));
  }

-- ---- one router after another
-- f k is the set of router k. The entry of r in t has the routers before s whose set r is in; it is 0 from n on.
pub record Held (w n s : ℕ) (f : ℕ → ℕ) (t : List ℕ) : Type 0 where
  pub size : length t ≡ w
  pub held : (r : ℕ) → r < n → get_or t r 0 ≡ set_of s (λ k. bit (f k) r)
  pub rest : (r : ℕ) → n ≤ r → get_or t r 0 ≡ 0

module _ (w n : ℕ) (f : ℕ → ℕ) where
  pub held_none : Held w n 0 f (replicate w 0)
  held_none = record {
    size = length-replicate w 0;
    held = λ r l. zeros_at w r ∙ set_of_start (λ k. bit (f k) r);
    rest = λ r l. zeros_at w r;
  }

  pub held_more :
      (s : ℕ) (was t : List ℕ) → s < w → Held w n s f was → Entered w n (f s) s was t → Held w n (s + 1) f t
  held_more s was t h i e = record {
    size = e.size ∙ i.size;
    held = λ r l.
        let p : ℕ → Bool = λ k. bit (f k) r in
        ⊎_elim
        (λ b. e.held r l b ∙ ap (λ (y : ℕ). added w y s) (i.held r l) ∙ set_of_more w s p h b)
        (λ b. e.kept r (λ u. false≢true (sym b ∙ u.1)) ∙ i.held r l ∙ set_of_skip s p b)
        (look (p s));
    rest = λ r l. e.kept r (λ u. let z : ⊥ = omega (arith, u.0) in z) ∙ i.rest r l;
  }

  pub held_all : (t : List ℕ) → Held w n n f t → t ≡ per_router w n (telling_by n f)
  held_all t i = is_per w n (telling_by n f) t i.size (λ r a b. i.held r b) (λ r a b. i.rest r b)
