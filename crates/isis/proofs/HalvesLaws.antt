-- Whether row e of the table of identities has the identity x, by two parts of a row: its last four bytes of identity,
-- and the three before them.
--     halves           an identity by these parts
--     last_differs     the last four bytes are others than those of x
--     first_told       they are the same: the first three tell
use Rattle.std.specs.Prelude.{ℕ, ◌+◌, ◌*◌, ◌/◌, ◌%◌, ◌<◌, ◌≡◌, false, ◌≢◌, List, eqb, get_or}
use Rattle.std.proofs.Math.Path.{sym}
use Rattle.std.proofs.Common.{ap, ◌∙◌, arith}
use Rattle.std.proofs.Math.Decide.{ℕ_discrete}
use borrow.Author.Tests.{eq-eqb, ne_eqb}
use Rattle.area.specs.Bytes.{two}
use Rattle.tlv.specs.Items.{seven}
use Rattle.isis.specs.Identities.{identity_of, has_identity}

-- the number in the four bytes at place p, high byte first
abbrev pub four : (l : List ℕ) (p : ℕ) → ℕ
four l p = 16777216 * get_or l p 0 + 65536 * get_or l (p + 1) 0 + 256 * get_or l (p + 2) 0 + get_or l (p + 3) 0

-- an identity by its first three bytes and its last four
pub halves : (t : List ℕ) (p : ℕ) → seven t p ≡ 4294967296 * (256 * two t p + get_or t (p + 2) 0) + four t (p + 3)
halves t p =
    let at : (j k : ℕ) → j ≡ k → get_or t j 0 ≡ get_or t k 0 = λ j k e. ap (λ (i : ℕ). get_or t i 0) e in
    omega (
      arith,
      at (p + 3 + 1) (p + 4) (omega arith),
      at (p + 3 + 2) (p + 5) (omega arith),
      at (p + 3 + 3) (p + 6) (omega arith),
    )

module _ (t : List ℕ) (x : ℕ) where
  -- row e, by the numbers in its first three bytes and in the last four of its identity
  module _ (e last : ℕ) (told : last ≡ four t (8 * e + 3)) (small : last < 4294967296) where
    pub last_differs : last ≢ x % 4294967296 → false ≡ has_identity t x e
    last_differs f = sym (ne_eqb (identity_of t e) x (λ q. f (omega (arith, halves t (8 * e), q, told))))

    module _
        (same : last ≡ x % 4294967296)
        (high low : ℕ) (h : high ≡ two t (8 * e)) (l : low ≡ get_or t (8 * e + 2) 0)
      where
        pub first_told : eqb (256 * high + low) (x / 4294967296) ≡ has_identity t x e
        first_told = elim (ℕ_discrete (256 * high + low) (x / 4294967296)) [
          | yes q ↦
              eq-eqb (256 * high + low) (x / 4294967296) q
              ∙ sym (eq-eqb (identity_of t e) x (omega (arith, halves t (8 * e), q, told)))
          | no f ↦
              ne_eqb (256 * high + low) (x / 4294967296) f
              ∙ sym (ne_eqb (identity_of t e) x (λ q. f (omega (arith, halves t (8 * e), q, told))))
        ]
