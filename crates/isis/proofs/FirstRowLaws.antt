-- An identity x by the number r of its first row in the table of identities: the router of that row is the router of x.
--     known_at         there is such a row, so the identity is in the table
--     of_known         whether it is router j's
--     known, other     the same for the identity of an entry, in the list of router i
use Rattle.std.specs.Prelude.{ℕ, ◌<◌, ◌≡◌, true, false, ◌≢◌, List, eqb}
use Rattle.std.proofs.Math.Path.{refl}
use Rattle.std.proofs.Common.{◌∙◌, arith, lt-ltb, ne_eqb}
use Rattle.tlv.specs.declared.Neighbour.{Neighbour}
use Rattle.isis.specs.Identities.{row_count, router, row_of, is_known, is_of}

module _ (t : List ℕ) (x : ℕ) (r : ℕ) (is : r ≡ row_of t x) (h : r < row_count t) where
  pub known_at : is_known t x ≡ true
  known_at = lt-ltb (row_of t x) (row_count t) (omega arith)

  pub of_known : (j : ℕ) → is_of t x j ≡ eqb (router t r) j
  unfolding is_of
  of_known j = rw (known_at, ← is) refl

-- an entry in the list of router i; r is the first row with its identity, and q the router of that row
module _
    (t : List ℕ) (i : ℕ) (x : Neighbour) (r : ℕ) (is : r ≡ row_of t x.identity)
    (h : r < row_count t) (q : ℕ) (read : q ≡ router t r)
  where
    pub known : is_known t x.identity ≡ true
    known = known_at t x.identity r is h

    pub other : q ≢ i → is_of t x.identity i ≡ false
    other f = of_known t x.identity r is h i ∙ ne_eqb (router t r) i (λ e. f (read ∙ e))
