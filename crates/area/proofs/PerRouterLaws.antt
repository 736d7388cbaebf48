-- Laws of tables per router, once for every width w. Two lists are equal where their entries are.
--     per_length, per_at, per_beyond       the entries of a table
--     is_per, per_same                     when a list is that table, and when two tables are equal
--     zeros_at                             the entries of a table of zeros
--     Filled w n f t                       the entries of t before n are those of f, and the rest is 0
--     filled_none, filled_more             this holds of zeros, and of one entry more when that is written
--     filled_all                           and then t is the table of f
use Rattle.std.specs.Prelude.{ℕ, ◌+◌, ◌≤◌, ◌<◌, ◌≡◌, refl, List, ltb, length, get_or, set, replicate}
use Rattle.std.proofs.Math.Path.{sym}
use Rattle.std.proofs.Common.{◌∙◌, arith, lt-ltb, le-ltb, length-set, get_or-set_other}
use Rattle.std.proofs.Math.Decide.{dec_lt}
use Rattle.std.proofs.lemmas.List.{length-replicate, get_or-replicate}
use Rattle.std.proofs.Math.ListN.{get_or-eq_default}
use Rattle.area.specs.Tests.{pick}
use Rattle.area.specs.Tables.{per_router}
use Rattle.area.proofs.TableLaws.{length_build, build_at, is_build, Front, front_none, front_more}

module _ (w n : ℕ) (f : ℕ → ℕ) where
  entry_in : (r : ℕ) → r < n → pick (ltb r n) (f r) 0 ≡ f r
  entry_in r l = rw (lt-ltb r n l) refl

  entry_out : (r : ℕ) → n ≤ r → pick (ltb r n) (f r) 0 ≡ 0
  entry_out r l = rw (le-ltb r n l) refl

  pub per_length : length (per_router w n f) ≡ w
  unfolding per_router
  per_length = length_build w (λ r. pick (ltb r n) (f r) 0)

  pub per_at : (r : ℕ) → r < n → n ≤ w → get_or (per_router w n f) r 0 ≡ f r
  unfolding per_router
  per_at r a b = build_at w (λ r. pick (ltb r n) (f r) 0) r (omega arith) ∙ entry_in r a

  pub per_beyond : (r : ℕ) → n ≤ r → r < w → get_or (per_router w n f) r 0 ≡ 0
  unfolding per_router
  per_beyond r a b = build_at w (λ r. pick (ltb r n) (f r) 0) r b ∙ entry_out r a

  -- a list of w entries is the table of f where each entry is f's
  pub is_per :
      (t : List ℕ)
      → length t ≡ w
      → ((r : ℕ) → r < w → r < n → get_or t r 0 ≡ f r)
      → ((r : ℕ) → r < w → n ≤ r → get_or t r 0 ≡ 0)
      → t ≡ per_router w n f
  unfolding per_router
  is_per t e g h =
      is_build w (λ r. pick (ltb r n) (f r) 0) t e
      (λ r l. elim (dec_lt r n) [
        | yes a ↦ g r l a ∙ sym (entry_in r a)
        | no b ↦ h r l (omega arith) ∙ sym (entry_out r (omega arith))
      ])

pub per_same :
    (w n : ℕ) (f g : ℕ → ℕ)
    → n ≤ w
    → ((r : ℕ) → r < n → f r ≡ g r)
    → per_router w n f ≡ per_router w n g
per_same w n f g l e =
    is_per w n g (per_router w n f) (per_length w n f)
    (λ r a b. per_at w n f r b l ∙ e r b)
    (λ r a b. per_beyond w n f r b a)

-- ---- a table of zeros has no other entry, and none beyond its end
pub zeros_at : (w r : ℕ) → get_or {A = ℕ} (replicate w 0) r 0 ≡ 0
zeros_at w r = elim (dec_lt r w) [
  | yes h ↦ get_or-replicate w r 0 0 h
  | no f ↦ get_or-eq_default (replicate {A = ℕ} w 0) 0 (omega (arith, length-replicate {A = ℕ} w 0))
]

-- ---- a loop that writes the entries from the first on
pub record Filled (w n : ℕ) (f : ℕ → ℕ) (t : List ℕ) : Type 0 where
  pub size : length t ≡ w
  pub done : Front n f t
  pub rest : (r : ℕ) → n ≤ r → r < w → get_or t r 0 ≡ 0

pub filled_none : (w : ℕ) (f : ℕ → ℕ) → Filled w 0 f (replicate w 0)
filled_none w f = record {
  size = length-replicate w 0;
  done = front_none f (replicate w 0);
  rest = λ r a b. get_or-replicate w r 0 0 b;
}

pub filled_more :
    (w n : ℕ) (f : ℕ → ℕ) (t : List ℕ) (v : ℕ)
    → Filled w n f t
    → n < w
    → v ≡ f n
    → Filled w (n + 1) f (set t n v)
filled_more w n f t v i l e = record {
  size = simp length-set i.size;
  done = front_more n f t v i.done (omega (arith, i.size)) e;
  rest = λ r a b. get_or-set_other t n r v 0 (λ q. let x : ⊥ = omega arith in x) ∙ i.rest r (omega arith) b;
}

pub filled_all : (w n : ℕ) (f : ℕ → ℕ) (t : List ℕ) → Filled w n f t → t ≡ per_router w n f
filled_all w n f t i = is_per w n f t i.size (λ r a b. i.done r b) (λ r a b. i.rest r b a)
