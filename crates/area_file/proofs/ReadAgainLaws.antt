-- Read takes the bench file of an area, and gives its metric table back.
--     Sound            a table as Read and the reader of link-state data fill it: 1 to `unused` between two routers of
--                      the area, and `unused` in all other cells
--     file_accepted, file_read     Read accepts the file of such a table
--     file_metrics                 and gives the table back, whatever table it is lent
--     text_again                   the same of the text, once it is decoded
-- The bytes from the fourth on are the links one after another, so entry e of them is link e (entry_back). The links
-- come in the order of their cells, so no pair is listed twice (LinkLaws.antt), and each of them is that of a cell of
-- the area that is used, so none is faulty. A used cell has its link, and the others have none: so the links give each
-- cell the metric that it had.
use Rattle.std.specs.Prelude.{ℕ, zero, suc, ◌+◌, ◌*◌, ◌/◌, ◌%◌, ◌≤◌, ◌<◌, ◌≡◌, true, false, ◌≢◌, ◌⊎◌, List, [], ◌∷◌}
use Rattle.std.specs.Prelude.{◌++◌, length, get_or}
use Rattle.std.proofs.Math.Path.{refl}
use Rattle.std.proofs.Common.{sym, ap, ap₂, ◌∙◌, subst, inl, inr, ⊎_elim, not-suc-le-zero, le_of_suc-le-suc, ne_eqb}
use Rattle.std.proofs.Common.{get_or-append-add, get_or-drop}
use Rattle.std.proofs.Math.Decide.{dec_lt, ℕ_discrete}
use native.Mathlib.Omega.{arith}
use Rattle.std.proofs.Math.ListN.{length-append}
use Rattle.area.specs.Limits.{width, unused}
use Rattle.area.proofs.TestLaws.{look}
use Rattle.area.specs.Sizes.{is_router_count}
use Rattle.area.proofs.SizeLaws.{router_count_most}
use Rattle.area.specs.Tables.{cell}
use Rattle.entries.specs.declared.Entry.{Entry}
use Rattle.entries.specs.Entries.{entry_count, entry_of, from, to, metric, is_for_pair, listed_metric}
use Rattle.entries.proofs.EntryLaws.{entry_count_is, entry_count_least, entry_bytes}
use Rattle.entries.proofs.EntryLaws.{joined_left, joined_right, of_pair, free_true, given_none, given_at}
use Rattle.bench_file.specs.declared.Format.TheVariants.{New}
use Rattle.bench_file.specs.Sections.{routers, link_count, links, change_count_at, change_count, step_count}
use Rattle.bench_file.proofs.FaultLaws.{most_links_is, live_passes, Link, Accepted, of_accepted}
use Rattle.bench_file.specs.Read.{read_refusal, metrics_of}
use Rattle.bench_file.proofs.ReadLaws.{read_file, metrics_accepted, linked_is}
use Rattle.hexadecimal.specs.Hex.{unhexed}
use Rattle.area_file.specs.AreaFile.{link, links_of, count_bytes, link_bytes, bytes_of, times, file_of, area_text}
use Rattle.area_file.proofs.AreaFileLaws.{sized_true, text_read}
use Rattle.area_file.proofs.LinkLaws.{Listed, all_at, all_listed, links_most, key, listed_less, listed_found}

-- ---- the bytes of links, read again
bytes_length : (l : List Entry) → length (bytes_of l) ≡ 5 * length l
unfolding bytes_of
bytes_length [] = refl
bytes_length (x ∷ l) = omega (arith, bytes_length l)

same_entry : (x y : Entry) → x.from ≡ y.from → x.to ≡ y.to → x.metric ≡ y.metric → x ≡ y
same_entry x y p q r =
    ap (λ (i : ℕ). link i x.to x.metric) p
    ∙ ap (λ (j : ℕ). link y.from j x.metric) q
    ∙ ap (λ (v : ℕ). link y.from y.to v) r

one_link : (x : Entry) → entry_count (link_bytes x) ≡ 1
one_link x = entry_count_is (link_bytes x) 1 refl

link_back : (x : Entry) → entry_of (link_bytes x) 0 ≡ x
link_back x =
    let b = entry_bytes (link_bytes x) 0 (omega (arith, one_link x)) in
    same_entry (entry_of (link_bytes x) 0) x b.0 b.1 (b.2 ∙ omega arith)

-- any bytes may follow
entry_back :
    (l : List Entry) (rest : List ℕ) (e : ℕ) (z : Entry)
    → e < length l
    → entry_of (bytes_of l ++ rest) e ≡ get_or l e z
unfolding bytes_of
entry_back [] rest e z h = absurd (not-suc-le-zero h)
entry_back (x ∷ l) rest zero z h =
    joined_left (link_bytes x) (bytes_of l ++ rest) refl 0 (omega (arith, one_link x)) ∙ link_back x
entry_back (x ∷ l) rest (suc e) z h =
    let less = le_of_suc-le-suc h in
    let size = length-append (bytes_of l) rest in
    let room : 5 * length l ≤ length (bytes_of l ++ rest) = omega (arith, bytes_length l) in
    let many = entry_count_least (bytes_of l ++ rest) (length l) room in
    let place : suc e ≡ entry_count (link_bytes x) + e = omega (arith, one_link x) in
    ap (entry_of (link_bytes x ++ (bytes_of l ++ rest))) place
    ∙ joined_right (link_bytes x) (bytes_of l ++ rest) refl e (omega arith)
    ∙ entry_back l rest e z less

-- ---- the sections of the file
module _ (n : ℕ) (m : List ℕ) where
  abbrev count : ℕ
  count = length (links_of n m)

  -- no changes, the times, and no steps
  abbrev rest : List ℕ
  rest = (0 ∷ []) ++ (times ++ count_bytes 0)

  pub file_routers : routers (file_of n m) ≡ n
  unfolding file_of
  file_routers = refl

  pub file_count : link_count (file_of n m) ≡ count
  unfolding file_of
  file_count = omega arith

  file_links : links (file_of n m) ≡ bytes_of (links_of n m) ++ rest
  unfolding file_of
  file_links = refl

  -- byte i after the links
  behind : (i x : ℕ) → x ≡ change_count_at (file_of n m) + i → get_or (file_of n m) x 0 ≡ get_or rest i 0
  behind i x e =
      let place : x ≡ 3 + (length (bytes_of (links_of n m)) + i)
      = omega (arith, file_count, bytes_length (links_of n m)) in
      ap (λ (k : ℕ). get_or (file_of n m) k 0) place
      ∙ sym (get_or-drop 3 (file_of n m) (length (bytes_of (links_of n m)) + i) 0)
      ∙ ap (λ (l : List ℕ). get_or l (length (bytes_of (links_of n m)) + i) 0) file_links
      ∙ get_or-append-add (bytes_of (links_of n m)) rest i 0

  file_changes : change_count (file_of n m) ≡ 0
  file_changes = behind 0 _ (omega arith)

  file_steps : step_count New (file_of n m) ≡ 0
  file_steps =
      ap₂ (λ (x y : ℕ). 256 * x + y)
      (behind 5 _ (omega (arith, file_changes)))
      (behind 6 _ (omega (arith, file_changes)))

  file_length : length (file_of n m) ≡ 10 + 5 * count
  unfolding file_of
  file_length =
      let size = length-append (bytes_of (links_of n m)) rest in
      omega (arith, bytes_length (links_of n m))

  -- ---- its links
  abbrev bytes : List ℕ
  bytes = bytes_of (links_of n m) ++ rest

  abbrev at : (e : ℕ) → Entry
  at e = get_or (links_of n m) e (link 0 0 0)

  entry_is : (e : ℕ) → e < count → entry_of bytes e ≡ at e
  entry_is e h = entry_back (links_of n m) rest e (link 0 0 0) h

  -- each is that of a cell
  abbrev OfCell : (x : Entry) → Type 0
  OfCell x =
      (d : ℕ)
      × (d < width * n)
      × Listed n d (get_or m d 0)
      × (x ≡ link (d / width) (d % width) (get_or m d 0))

  of_cell : (e : ℕ) → e < count → OfCell (entry_of bytes e)
  of_cell e h =
      let all = all_listed n m OfCell (width * n) (λ d b x. (d, b, x, refl)) in
      let x = all_at OfCell (links_of n m) all e (link 0 0 0) h in
      (x.0, x.1, x.2, entry_is e h ∙ x.3)

  -- no pair is listed twice
  other : (d e : ℕ) → d < e → e < count → is_for_pair bytes d (from bytes e) (to bytes e) ≡ false
  other d e b h =
      ⊎_elim (λ t. absurd (never (of_pair bytes d (from bytes e) (to bytes e) t))) (λ f. f)
      (look (is_for_pair bytes d (from bytes e) (to bytes e)))
    where
      never : (from bytes d ≡ from bytes e) × (to bytes d ≡ to bytes e) → ⊥
      never same =
          let less = listed_less n m (width * n) d e (link 0 0 0) b h in
          let one = ap key (entry_is d (omega arith)) in
          let two = ap key (entry_is e h) in
          omega (arith, same.0, same.1)

-- ---- a table that Read may have filled
pub record Sound (n : ℕ) (m : List ℕ) : Type 0 where
  pub routers_in : is_router_count n ≡ true
  pub size : length m ≡ width * width
  pub between :
      (i j : ℕ)
      → i < n
      → j < n
      → i ≢ j
      → (1 ≤ cell width m i j) × (cell width m i j ≤ unused)
  pub own : (i : ℕ) → i < n → cell width m i i ≡ unused
  pub beyond : (i j : ℕ) → i < width → j < width → (n ≤ i) ⊎ (n ≤ j) → cell width m i j ≡ unused

module _ (n : ℕ) (m : List ℕ) (sound : Sound n m) where
  few : n ≤ width
  few = router_count_most n sound.routers_in

  -- the cell at place d, by its pair
  cell_at : (d : ℕ) → get_or m d 0 ≡ cell width m (d / width) (d % width)
  cell_at d = ap (λ (k : ℕ). get_or m k 0) (omega arith)

  link_is : (e : ℕ) → e < count n m → Link New n (bytes n m) e
  link_is e h =
      let c = of_cell n m e h in
      let d = c.0 in
      let below = c.1 in
      let x = c.2 in
      let v = cell_at d in
      let range = sound.between (d / width) (d % width) (omega arith) x.to_in x.apart in
      let is-from = ap (λ (y : Entry). y.from) c.3 in
      let is-to = ap (λ (y : Entry). y.to) c.3 in
      let is-metric = ap (λ (y : Entry). y.metric) c.3 in
      let size = length-append (bytes_of (links_of n m)) (rest n m) in
      let room : 5 * count n m ≤ length (bytes n m) = omega (arith, bytes_length (links_of n m)) in
      record {
        whole = omega (arith, entry_count_least (bytes n m) (count n m) room);
        entry = record {
          from_in = omega arith;
          to_in = omega (arith, x.to_in);
          apart = λ q. x.apart (sym is-from ∙ q ∙ is-to);
          some = λ q. omega (arith, range.0);
        };
        taken =
            live_passes New (entry_of (bytes n m) e)
            (ne_eqb (metric (bytes n m) e) unused (λ q. omega (arith, x.used)));
        new =
            free_true (bytes n m) e (from (bytes n m) e) (to (bytes n m) e) (λ d b. other n m d e b h);
      }

  file_accepted : Accepted New (file_of n m)
  file_accepted = record {
    routers_in = subst (λ (k : ℕ). is_router_count k ≡ true) (sym (file_routers n m)) sound.routers_in;
    most_links_lem = rw (file_count n m, file_routers n m, most_links_is n) (links_most n m few);
    each_link = λ e h. rw (file_links n m, file_routers n m) (link_is e (omega (arith, file_count n m)));
    most_changes_lem = omega (arith, file_changes n m);
    most_steps_lem = omega (arith, file_steps n m);
    size = omega (arith, file_length n m, file_count n m, file_changes n m, file_steps n m);
  }

  -- ---- the metrics that the links give
  module _ (i j : ℕ) (a : i < width) (b : j < width) where
    abbrev k : ℕ
    k = width * i + j

    abbrev given : ℕ
    given = listed_metric (bytes n m) (count n m) i j unused

    -- a used cell of the area has its link
    used_cell : k < width * n → Listed n k (get_or m k 0) → given ≡ get_or m k 0
    used_cell h x =
        let found = listed_found n m (width * n) k (link 0 0 0) h x in
        let e = found.0 in
        let is = entry_is n m e found.1 ∙ found.2 in
        let is-from : from (bytes n m) e ≡ i = ap (λ (y : Entry). y.from) is ∙ omega arith in
        let is-to : to (bytes n m) e ≡ j = ap (λ (y : Entry). y.to) is ∙ omega arith in
        let once = given_at (bytes n m) (count n m) unused (λ d c. (link_is d c).new) e found.1 in
        ap₂ (λ (x y : ℕ). listed_metric (bytes n m) (count n m) x y unused) (sym is-from) (sym is-to)
        ∙ once
        ∙ ap (λ (y : Entry). y.metric) is

    -- no other has one
    no_link : ((k < width * n) × Listed n k (get_or m k 0) → ⊥) → given ≡ unused
    no_link none = given_none (bytes n m) (count n m) i j unused each
      where
        each : (e : ℕ) → e < count n m → is_for_pair (bytes n m) e i j ≡ false
        each e h =
            ⊎_elim (λ t. absurd (never (of_pair (bytes n m) e i j t))) (λ f. f) (look (is_for_pair (bytes n m) e i j))
          where
            never : (from (bytes n m) e ≡ i) × (to (bytes n m) e ≡ j) → ⊥
            never same =
                let c = of_cell n m e h in
                let is-from = ap (λ (y : Entry). y.from) c.3 in
                let is-to = ap (λ (y : Entry). y.to) c.3 in
                let place : c.0 ≡ k = omega (arith, same.0, same.1) in
                none (subst (λ (d : ℕ). (d < width * n) × Listed n d (get_or m d 0)) place (c.1, c.2))

    same_metric_lem : get_or m k 0 ≡ given
    same_metric_lem = by_tests (dec_lt i n) (dec_lt j n) (ℕ_discrete i j) (dec_lt (get_or m k 0) unused)
      where
        by_tests : Dec (i < n) → Dec (j < n) → Dec (i ≡ j) → Dec (get_or m k 0 < unused) → get_or m k 0 ≡ given
        by_tests (no f) y z w =
            sound.beyond i j a b (inl (omega arith)) ∙ sym (no_link (λ x. omega (arith, x.0)))
        by_tests (yes x) (no f) z w =
            sound.beyond i j a b (inr (omega arith)) ∙ sym (no_link (λ x. omega (arith, x.1.to_in)))
        by_tests (yes x) (yes y) (yes z) w =
            ap (λ (q : ℕ). get_or m (width * i + q) 0) (sym z)
            ∙ sound.own i x
            ∙ sym (no_link (λ x. x.1.apart (omega arith)))
        by_tests (yes x) (yes y) (no z) (yes w) =
            sym (used_cell (omega arith)
            (record { to_in = omega arith; apart = λ q. z (omega arith); used = w }))
        by_tests (yes x) (yes y) (no z) (no w) =
            let top = (sound.between i j x y z).1 in
            let is : get_or m k 0 ≡ unused = omega arith in
            is ∙ sym (no_link (λ x. w x.1.used))

  -- ---- Read, with any table of the right size
  module _ (t : List ℕ) (sized : length t ≡ width * width) where
    pub file_read : read_refusal (file_of n m) t ≡ 0
    file_read = read_file (file_of n m) t sized ∙ of_accepted New (file_of n m) file_accepted

    pub file_metrics : metrics_of (file_of n m) t ≡ m
    file_metrics =
        metrics_accepted New (file_of n m) t sized (of_accepted New (file_of n m) file_accepted)
        ∙ rw (file_links n m, file_count n m) (sym (linked_is (bytes n m) (count n m) m sound.size same_metric_lem))

    -- ---- so the text, decoded and read, gives the table that it was printed for
    pub text_again :
        (read_refusal (unhexed (area_text n m)) t ≡ 0)
        × (metrics_of (unhexed (area_text n m)) t ≡ m)
    text_again = rw (text_read n m (sized_true n m sound.routers_in sound.size)) (file_read, file_metrics)
