-- Laws of the table of identities: those by which the code is proved, and what is known of a table that is accepted.
--     rows_unknown, rows_cut, rows_pass    the refusals of the rows, one for each way in which the code returns
--     rows_in                              all rows of a table that is not refused are so
--     some_unknown, none_unknown           the rows as chunks of eight bytes: one has an unknown router, or none has
--     row_found                            the router of the first chunk with an identity
--     row_hit, row_none                    the first row of an identity
--     not_known, known_of, of_router, of_other, router_below, of_none
--                                          an identity, by the router that is found
use Rattle.std.specs.Prelude.{ℕ, ◌+◌, ◌*◌, ◌%◌, ◌≤◌, ◌<◌, ◌≡◌, Bool, true, false, ◌≢◌, List, eqb, ltb, length}
use Rattle.std.specs.Prelude.{zero, suc, [], leb, get_or, take, drop, Option, Some, None, option_map}
use Rattle.std.specs.Option.{unwrap_or}
use Rattle.std.specs.Simd.{first_chunks}
use Rattle.std.specs.List.{find, position_or_len, slice_get, All, Any}
use Rattle.std.proofs.Math.Path.{refl, sym}
use Rattle.std.proofs.Common.{ap, ◌∙◌, arith}
use Rattle.std.proofs.Math.Logic.{⊎_elim}
use Rattle.std.proofs.Math.Decide.{dec_lt}
use Rattle.std.proofs.Common.{get_or-take, get_or-drop, not-suc-le-zero}
use Rattle.std.proofs.lemmas.List.{drop-drop}
use Rattle.std.proofs.lemmas.List.Sums.{position_or_len_is}
use Rattle.std.proofs.lemmas.List.Folds.{find_at}
use Rattle.std.proofs.lemmas.Option.{slice_get-get_or, slice_get_past, none-some}
use borrow.Author.Tests.{lt-ltb, le-ltb, eq-eqb, ne_eqb, ltb-true, le-leb, leb-true, leb-false}
use Rattle.area.specs.Refusals.{incomplete, unknown_router}
use Rattle.area.specs.Tests.{pick, first, lowest}
use Rattle.area.proofs.TestLaws.{then_some, then_none, then_both, first_none, first_fault, none_first, look}
use Rattle.area.proofs.LowestLaws.{lowest_some, lowest_passes, lowest_below, lowest_hit, lowest_out}
use Rattle.tlv.specs.Items.{seven}
use Rattle.isis.specs.Identities.{row_count, identity_of, router, rows_refusal, row_of, is_known, is_of}
use Rattle.isis.specs.Identities.{RowsIn, has_identity, router_of}

module _ (n : ℕ) (t : List ℕ) where
  -- the refusal of a whole row
  abbrev row_refusal : ℕ → ℕ
  row_refusal e = pick (ltb (router t e) n) 0 unknown_router

  row_passes : (e : ℕ) → router t e < n → row_refusal e ≡ 0
  row_passes e h = rw (lt-ltb (router t e) n h) refl

  row_unknown : (e : ℕ) → n ≤ router t e → row_refusal e ≡ unknown_router
  row_unknown e h = rw (le-ltb (router t e) n h) refl

  all_pass : (e : ℕ) → RowsIn n t e → first e row_refusal ≡ 0
  all_pass e rows = first_none row_refusal e (λ k h. row_passes k (rows k h))

  pub rows_unknown :
      (e : ℕ)
      → e < row_count t
      → RowsIn n t e
      → n ≤ router t e
      → unknown_router ≡ rows_refusal n t
  unfolding rows_refusal
  rows_unknown e h rows bad =
      let told = row_unknown e bad in
      let found =
      first_fault row_refusal e (row_count t) h (λ k l. row_passes k (rows k l))
      (λ z. let x : ⊥ = omega (arith, told, z) in x) ∙ told in
      sym (then_some (first (row_count t) row_refusal) _ (λ z. let x : ⊥ = omega (arith, found, z) in x) ∙ found)

  module _ (rows : RowsIn n t (row_count t)) where
    pub rows_cut : length t % 8 ≢ 0 → incomplete ≡ rows_refusal n t
    unfolding rows_refusal
    rows_cut f =
        sym (then_none (first (row_count t) row_refusal) _ (all_pass (row_count t) rows)
        ∙ rw (ne_eqb (length t % 8) 0 f) refl)

    pub rows_pass : length t % 8 ≡ 0 → 0 ≡ rows_refusal n t
    unfolding rows_refusal
    rows_pass e =
        sym (then_none (first (row_count t) row_refusal) _ (all_pass (row_count t) rows)
        ∙ rw (eq-eqb (length t % 8) 0 e) refl)

  pub rows_in : rows_refusal n t ≡ 0 → RowsIn n t (row_count t)
  unfolding rows_refusal
  rows_in z k h =
      let passed = none_first row_refusal (row_count t) (then_both (first (row_count t) row_refusal) _ z).0 k h in
      ⊎_elim
      (λ told. ltb-true (router t k) n told)
      (λ told.
      let bad : unknown_router ≡ 0 = sym (ap (λ (b : Bool). pick b 0 unknown_router) told) ∙ passed in
      absurd (let x : ⊥ = omega (arith, bad) in x))
      (look (ltb (router t k) n))

-- ---- the rows as chunks of eight bytes
chunk_at :
    (k : ℕ) (t : List ℕ) (e : ℕ) (d : List ℕ)
    → e < k
    → get_or (first_chunks 8 k t) e d ≡ take 8 (drop (8 * e) t)
chunk_at zero t e d h = absurd (not-suc-le-zero h)
chunk_at (suc k) t zero d h = refl
chunk_at (suc k) t (suc e) d h =
    chunk_at k (drop 8 t) e d (omega arith)
    ∙ ap (take 8) (drop-drop (8 * e) 8 t ∙ ap (λ (p : ℕ). drop p t) (omega arith))

length_chunks : (k : ℕ) (t : List ℕ) → length (first_chunks 8 k t) ≡ k
length_chunks zero t = refl
length_chunks (suc k) t = ap suc (length_chunks k (drop 8 t))

module _ (t : List ℕ) where
  abbrev pub rows : List (List ℕ)
  rows = first_chunks 8 (row_count t) t

  module _ (e : ℕ) (d : List ℕ) (h : e < row_count t) where
    row_byte : (j p : ℕ) → j < 8 → p ≡ 8 * e + j → get_or (get_or rows e d) j 0 ≡ get_or t p 0
    row_byte j p s at =
        ap (λ (x : List ℕ). get_or x j 0) (chunk_at (row_count t) t e d h)
        ∙ get_or-take 8 (drop (8 * e) t) j 0 s
        ∙ get_or-drop (8 * e) t j 0
        ∙ ap (λ (x : ℕ). get_or t x 0) (sym at)

    row_router : get_or (get_or rows e d) 7 0 ≡ router t e
    row_router = row_byte 7 (8 * e + 7) (omega arith) (omega arith)

    row_identity : seven (get_or rows e d) 0 ≡ identity_of t e
    row_identity =
        omega (
          arith,
          row_byte 0 (8 * e) (omega arith) (omega arith),
          row_byte 1 (8 * e + 1) (omega arith) (omega arith),
          row_byte 2 (8 * e + 2) (omega arith) (omega arith),
          row_byte 3 (8 * e + 3) (omega arith) (omega arith),
          row_byte 4 (8 * e + 4) (omega arith) (omega arith),
          row_byte 5 (8 * e + 5) (omega arith) (omega arith),
          row_byte 6 (8 * e + 6) (omega arith) (omega arith),
        )

  rows_length : length rows ≡ row_count t
  rows_length = length_chunks (row_count t) t

-- ---- some row has a router that is none, or no row has
module _ (n : ℕ) (t : List ℕ) where
  abbrev unknown : ℕ → Bool
  unknown e = leb n (router t e)

  pub some_unknown : Any (λ (r : List ℕ). n ≤ get_or r 7 0) (rows t) → unknown_router ≡ rows_refusal n t
  some_unknown some =
      let k : ℕ = some.0 in
      let here : k < row_count t = omega (arith, some.2, rows_length t) in
      let of_row : get_or some.1 7 0 ≡ router t k =
      ap (λ (r : List ℕ). get_or r 7 0) (sym some.3) ∙ row_router t k some.1 here in
      let bad : unknown k ≡ true = le-leb n (router t k) (omega (arith, of_row, some.4)) in
      let e : ℕ = lowest (row_count t) unknown in
      let within : e < row_count t = omega (arith, lowest_some unknown (row_count t) k here bad, here) in
      rows_unknown n t e within
      (λ j l. leb-false n (router t j) (lowest_below unknown (row_count t) j l))
      (leb-true n (router t e) (lowest_passes unknown (row_count t) within))

  pub none_unknown : All (λ (r : List ℕ). get_or r 7 0 < n) (rows t) → RowsIn n t (row_count t)
  none_unknown all e h = omega (arith, all e [] (omega (arith, h, rows_length t)), row_router t e [] h)

-- ---- the router of an identity
-- a row has the identity x
abbrev pub is_row : (x : ℕ) → List ℕ → Bool
is_row x r = eqb (seven r 0) x

-- the router of a row that is found
abbrev pub of_row : Option (List ℕ) → Option ℕ
of_row = option_map (λ (r : List ℕ). get_or r 7 0)

module _ (t : List ℕ) (x : ℕ) where
  is_at : (e : ℕ) → e < row_count t → is_row x (get_or (rows t) e []) ≡ has_identity t x e
  is_at e h = ap (λ (i : ℕ). eqb i x) (row_identity t e [] h)

  place : (row_of t x < row_count t) → position_or_len (is_row x) (rows t) ≡ row_of t x
  unfolding row_of
  place h =
      position_or_len_is (is_row x) (rows t) (row_of t x) [] (omega (arith, rows_length t))
      (λ k l. is_at k (omega arith) ∙ lowest_below (has_identity t x) (row_count t) k l)
      (λ l. is_at (row_of t x) h ∙ lowest_passes (has_identity t x) (row_count t) h)

  no_place : (row_count t ≤ row_of t x) → position_or_len (is_row x) (rows t) ≡ row_count t
  unfolding row_of
  no_place h =
      position_or_len_is (is_row x) (rows t) (row_count t) [] (omega (arith, rows_length t))
      (λ k l. is_at k l ∙ lowest_below (has_identity t x) (row_count t) k (omega arith))
      (λ l. absurd (let x : ⊥ = omega (arith, l, rows_length t) in x))

  abbrev found : Option (List ℕ)
  found = find (is_row x) (rows t)

  pub row_found : of_row found ≡ router_of t x
  unfolding router_of
  row_found = elim (dec_lt (row_of t x) (row_count t)) [
    | yes h ↦
        let is : found ≡ Some (get_or (rows t) (row_of t x) []) =
        find_at (is_row x) (rows t)
        ∙ ap (slice_get (rows t)) (place h)
        ∙ slice_get-get_or (rows t) (row_of t x) [] (omega (arith, rows_length t)) in
        rw (is, lt-ltb (row_of t x) (row_count t) h) (ap Some (row_router t (row_of t x) [] h))
    | no f ↦
        let is : found ≡ None =
        find_at (is_row x) (rows t)
        ∙ ap (slice_get (rows t)) (no_place (omega arith))
        ∙ slice_get_past (rows t) (row_count t) (omega (arith, rows_length t)) in
        rw (is, le-ltb (row_of t x) (row_count t) (omega arith)) refl
  ]

-- ---- the first row of an identity
module _ (t : List ℕ) (x : ℕ) where
  pub row_hit :
      (e : ℕ)
      → e < row_count t
      → e ≡ lowest e (has_identity t x)
      → has_identity t x e ≡ true
      → e ≡ row_of t x
  unfolding row_of
  row_hit e h low told = lowest_hit (has_identity t x) (row_count t) e h low told

  pub row_none : (e : ℕ) → row_count t ≤ e → e ≡ lowest e (has_identity t x) → row_count t ≡ row_of t x
  unfolding row_of
  row_none e h low = lowest_out (has_identity t x) (row_count t) e h low

-- ---- an identity, by the router that is found
module _ (t : List ℕ) (x : ℕ) where
  abbrev by_row : Bool → Option ℕ
  by_row known = pick known (Some (router t (row_of t x))) None

  told : (known : Bool) → is_known t x ≡ known → router_of t x ≡ by_row known
  unfolding router_of
  told known e = rw e refl

  pub not_known : router_of t x ≡ None → is_known t x ≡ false
  not_known e = ⊎_elim (λ k. absurd (none-some _ (sym e ∙ told true k))) (λ f. f) (look (is_known t x))

  module _ (j : ℕ) (e : router_of t x ≡ Some j) where
    pub known_of : is_known t x ≡ true
    known_of = ⊎_elim (λ k. k) (λ f. absurd (none-some j (sym (told false f) ∙ e))) (look (is_known t x))

    router_is : router t (row_of t x) ≡ j
    router_is = ap (λ (o : Option ℕ). unwrap_or o 0) (sym (told true known_of) ∙ e)

    of_found : (k : ℕ) → is_of t x k ≡ eqb j k
    unfolding is_of
    of_found k = rw (known_of, router_is) refl

    pub of_router : (k : ℕ) → j ≡ k → is_of t x k ≡ true
    of_router k s = of_found k ∙ eq-eqb j k s

    pub of_other : (k : ℕ) → j ≢ k → is_of t x k ≡ false
    of_other k f = of_found k ∙ ne_eqb j k f

    pub router_below : (n : ℕ) → RowsIn n t (row_count t) → j < n
    router_below n rows =
        omega (arith, router_is, rows (row_of t x) (ltb-true (row_of t x) (row_count t) known_of))

pub of_none : (t : List ℕ) (x j : ℕ) → is_known t x ≡ false → is_of t x j ≡ false
unfolding is_of
of_none t x j e = rw e refl
