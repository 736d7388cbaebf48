-- Laws of comments: they say nothing, and end with their line.
--     is_one_line, joined_line, field_line     bytes that do not end a line: two lists of them, a number after its name
--     says_comment, says_words, says_named     a comment: by itself, after spaces, and one with a number at its end
use Rattle.std.specs.Prelude.{ℕ, suc, ◌+◌, ◌<◌, ◌≡◌, refl, Bool, true, not, ◌&&◌, List, [], ◌∷◌, ◌++◌, eqb, length}
use Rattle.std.specs.Prelude.{get_or, replicate}
use Rattle.std.proofs.Common.{sym, ap, ◌∙◌, subst, append-nil, append_assoc, arith, ne_eqb, length-append}
use Rattle.std.proofs.lemmas.Bool.{not-true}
use Rattle.area.proofs.TestLaws.{both_true, and_true}
use Rattle.text.specs.Text.{decimal, field, line}
use Rattle.text.proofs.TextLaws.{field_is, line_is, line_after, decimal_ascii}
use Rattle.hexadecimal.specs.declared.Reading.TheVariants.{Between, Comment}
use Rattle.hexadecimal.specs.Hex.{digit, is_space, first, next, byte_of, unless_fault, decode}
use Rattle.hexadecimal.proofs.PairLaws.{Says, says_then, says_blanks}

-- ---- no byte is the end of a line
unfoldable pub is_one_line : (l : List ℕ) → Bool
is_one_line [] = true
is_one_line (b ∷ l) = not (eqb b 10) && is_one_line l

pub joined_line : (l m : List ℕ) → is_one_line l ≡ true → is_one_line m ≡ true → is_one_line (l ++ m) ≡ true
unfolding is_one_line
joined_line [] m x y = y
joined_line (b ∷ l) m x y =
    let p = both_true (not (eqb b 10)) (is_one_line l) x in
    and_true (not (eqb b 10)) (is_one_line (l ++ m)) p.0 (joined_line l m p.1 y)

others_line : (l : List ℕ) → ((i : ℕ) → i < length l → 10 < get_or l i 0) → is_one_line l ≡ true
unfolding is_one_line
others_line [] large = refl
others_line (b ∷ l) large =
    let first = large 0 (omega arith) in
    rw (ne_eqb b 10 (λ (e : b ≡ 10). let x : ⊥ = omega arith in x))
    (others_line l (λ i h. large (suc i) (omega arith)))

-- a number after its name
pub field_line : (name : List ℕ) (x : ℕ) → is_one_line name ≡ true → is_one_line (field name x) ≡ true
field_line name x h =
    rw (field_is name x)
    (joined_line name (decimal x) h (others_line (decimal x) (λ i b. omega (arith, decimal_ascii x i b))))

-- ---- a comment
comment_read :
    (l done : List ℕ) (at : ℕ) (rest : List ℕ)
    → is_one_line l ≡ true
    → decode done at Comment ((l ++ (10 ∷ [])) ++ rest) ≡ decode done (at + (length l + 1)) Between rest
unfolding is_one_line decode unless_fault next byte_of
comment_read [] done at rest h = rw (append-nil done) refl
comment_read (b ∷ l) done at rest h =
    let p = both_true (not (eqb b 10)) (is_one_line l) h in
    let place : at + 1 + (length l + 1) ≡ at + (suc (length l) + 1) = omega arith in
    rw (not-true (eqb b 10) p.0, append-nil done)
    (comment_read l done (at + 1) rest p.1 ∙ ap (λ (k : ℕ). decode done k Between rest) place)

first_hash : first 35 ≡ Comment
unfolding first digit is_space
first_hash = refl

pub says_comment : (l : List ℕ) → is_one_line l ≡ true → Says (35 ∷ (l ++ (10 ∷ []))) []
unfolding decode unless_fault next byte_of
says_comment l h = record {
  reads = λ done at s ready rest.
      let size = length-append l (10 ∷ []) in
      let place : at + 1 + (length l + 1) ≡ at + length (35 ∷ (l ++ (10 ∷ []))) = omega arith in (
        Between,
        (λ k. refl),
        rw (ready 35, first_hash, append-nil done)
            (comment_read l done (at + 1) rest h ∙ ap (λ (k : ℕ). decode done k Between rest) place),
      );
}

-- ---- a comment after k spaces: words, and a number after its name
abbrev pub comment : (k : ℕ) (words : List ℕ) → List ℕ
comment k words = replicate k 32 ++ (35 ∷ words)

pub says_words : (k : ℕ) (l : List ℕ) → is_one_line l ≡ true → Says (comment k (l ++ (10 ∷ []))) []
says_words k l h = says_then (says_blanks k) (says_comment l h)

pub says_named : (k : ℕ) (name : List ℕ) (x : ℕ) → is_one_line name ≡ true → Says (line (comment k name) x) []
says_named k name x h =
    let hash : comment k name ≡ comment k [] ++ name = sym (append_assoc (replicate k 32) (35 ∷ []) name) in
    let parts = ap (λ (w : List ℕ). line w x) hash
    ∙ line_after (comment k []) name x
    ∙ append_assoc (replicate k 32) (35 ∷ []) (line name x)
    ∙ ap (comment k) (line_is name x) in
    subst (λ (t : List ℕ). Says t []) (sym parts) (says_words k (field name x) (field_line name x h))
