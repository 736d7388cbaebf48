-- Laws of Read and of the old reader, for their callers and their readers.
--     links_most, accepted_most, accepted_largest, second_byte, links_among
--                                                      a file that is accepted in either format: how many links and
--                                                      bytes it has at most, its second byte, and how many links
--                                                      between few routers
--     one_format                                       and it is in one of them only
--     table_sized, file_passed, file_accepted          what is known where Read refuses nothing
--     link_cell, other_cell, cell_link                 then the table holds the listed links, and nothing else
--     file_size, file_largest                          the length of the file, by its counts, and at most
--     changes_length, steps_length, changes_count      the parts that Plan and Step get
--     contents_n, .. contents_times                    what the file says of itself
--     no_contents_n, no_contents_changes, no_contents_zeros
--                                                      and what is handed back with a refusal
--     long_refused     a file that is longer than the largest is refused
--     first_refusal    the first bytes of a file, one more than the largest has, decide how it is refused
--     first_bytes      and all that Read does
--
-- Why the first bytes decide: a file longer than `largest` is refused, and so is what is cut from it. Both have the
-- same bytes up to `largest`; a count that is not refused leaves the next count below that place, so both go down the
-- same ladder, and meet the same fault (same_first for the links, same_rest for what follows, same_refusal for all).
use Rattle.std.specs.Prelude.{ℕ, ◌+◌, ◌-◌, ◌*◌, ◌/◌, ◌≤◌, ◌<◌, ◌≡◌, true, false, ◌≢◌, ◌⊎◌, length, get_or, take, drop}
use Rattle.std.proofs.Math.Path.{refl, ap}
use Rattle.std.proofs.Common.{sym, ap₂, ◌∙◌, subst, inl, inr, ⊎_elim, arith, length-drop, length-take-le, take_all}
use Rattle.std.proofs.Common.{get_or-take, get_or-drop}
use mathlib.Core.List.{List}
use Rattle.std.proofs.Math.Decide.{dec_lt, ℕ_discrete}
use Rattle.area.specs.Bytes.{two}
use Rattle.area.specs.Limits.{width, unused, most_changes, most_steps}
use Rattle.area.specs.Tests.{first}
use Rattle.area.proofs.TestLaws.{look, first_same}
use Rattle.area.specs.Sizes.{is_router_count}
use Rattle.area.proofs.SizeLaws.{router_count_most}
use Rattle.area.specs.Tables.{cell}
use Rattle.area.proofs.TableLaws.{cell_tabulate}
use Rattle.entries.specs.Entries.{entry_count, entry_of, from, to, metric, is_for_pair, listed_metric}
use Rattle.entries.proofs.EntryLaws.{entry_count_is, entry_count_least, entry_bytes, entry_same}
use Rattle.entries.proofs.EntryLaws.{given_none, given_cases, given_at}
use Rattle.entries.proofs.DifferentLaws.{different_most}
use Rattle.bench_file.specs.Sections.{routers, link_count, links, change_count_at, change_count, changes_at}
use Rattle.bench_file.specs.Sections.{changes, hold_time, step_time, step_count_at, step_count, steps_at, steps}
use Rattle.bench_file.specs.Sections.{largest}
use Rattle.bench_file.specs.Formats.{times_size}
use Rattle.bench_file.specs.declared.Format.{Format}
use Rattle.bench_file.specs.declared.Format.TheVariants.{Old, New}
use Rattle.bench_file.specs.Faults.{most_links, link_refusal, links_refusal, rest_refusal, file_refusal}
use Rattle.bench_file.proofs.FaultLaws.{most_links_is, pairs_most, Accepted, accepted_of, link_same}
use Rattle.bench_file.proofs.FaultLaws.{rest_many_changes, rest_many_steps, rest_more}
use Rattle.bench_file.proofs.FaultLaws.{file_count, file_many, file_link, file_rest}
use Rattle.bench_file.specs.Read.{read_refusal, contents, no_contents, contents_of, linked, metrics_of}
use Rattle.bench_file.proofs.ReadLaws.{read_size, read_file, contents_refused}
use Rattle.bench_file.proofs.ReadLaws.{metrics_kept, metrics_refused, metrics_accepted}

-- ---- the largest file
-- so many links there are at most, where their count is not refused
pub links_most :
    (f : List ℕ)
    → is_router_count (routers f) ≡ true
    → link_count f ≤ most_links (routers f)
    → link_count f ≤ width * (width - 1)
links_most f a b =
    let most = pairs_most (routers f) (router_count_most (routers f) a) in
    omega (arith, most_links_is (routers f))

-- the old format is without the times
times_most : (format : Format) → times_size format ≤ 4
times_most Old = omega arith
times_most New = omega arith

pub accepted_most : (format : Format) (f : List ℕ) → Accepted format f → length f + 4 ≤ largest + times_size format
accepted_most format f good =
    let few_links = links_most f good.routers_in good.most_links_lem in
    omega (arith, good.size, good.most_changes_lem, good.most_steps_lem, few_links)

pub accepted_largest : (format : Format) (f : List ℕ) → Accepted format f → length f ≤ largest
accepted_largest format f good = omega (arith, accepted_most format f good, times_most format)

-- No file is accepted in both formats (02, No. 10): the times would make four bytes more of it, and steps have three.
pub one_format : (f : List ℕ) → Accepted Old f → Accepted New f → ⊥
one_format f old new = omega (arith, old.size, new.size)

-- the high byte of the link count
pub second_byte : (format : Format) (f : List ℕ) → Accepted format f → get_or f 1 0 ≤ width * (width - 1) / 256
second_byte format f good = omega (arith, links_most f good.routers_in good.most_links_lem)

-- where every byte that may number a router is among k numbers, these have k * k pairs, and no pair is listed twice
pub links_among :
    (format : Format) (f : List ℕ)
    → Accepted format f
    → (Among : ℕ → Type 0)
    → ((p : ℕ) → p < length f → get_or f p 0 < width → Among (get_or f p 0))
    → (k : ℕ) (place : ℕ → ℕ)
    → ((r : ℕ) → Among r → place r < k)
    → ((r s : ℕ) → Among r → Among s → place r ≡ place s → r ≡ s)
    → link_count f ≤ k * k
links_among format f good Among byte k place inside apart =
    different_most (links f) (link_count f) (λ e h. (good.each_link e h).new) Among ends k place inside apart
  where
    few : routers f ≤ width
    few = router_count_most (routers f) good.routers_in

    ends : (e : ℕ) → e < link_count f → Among (from (links f) e) × Among (to (links f) e)
    ends e h =
        let link = good.each_link e h in
        let bytes = entry_bytes (links f) e link.whole in
        let i = bytes.0 ∙ get_or-drop 3 f (5 * e) 0 in
        let j = bytes.1 ∙ get_or-drop 3 f (5 * e + 1) 0 in (
          subst Among (sym i) (byte _ (omega (arith, good.size)) (omega (arith, few, i, link.entry.from_in))),
          subst Among (sym j) (byte _ (omega (arith, good.size)) (omega (arith, few, j, link.entry.to_in))),
        )

-- ---- a file that Read does not refuse
module _ (f t : List ℕ) (z : read_refusal f t ≡ 0) where
  -- the table and the file are sound
  pub table_sized : length t ≡ width * width
  table_sized =
      elim (ℕ_discrete (length t) (width * width)) [
        | yes a ↦ a
        | no a ↦ absurd (let wrong = read_size f t a in let x : ⊥ = omega arith in x)
      ]

  -- the file by itself is not refused
  pub file_passed : file_refusal New f ≡ 0
  file_passed = sym (read_file f t table_sized) ∙ z

  pub file_accepted : Accepted New f
  file_accepted = accepted_of New f file_passed

  -- the cells of the table
  cells :
      (i j : ℕ)
      → i < width
      → j < width
      → cell width (metrics_of f t) i j ≡ listed_metric (links f) (link_count f) i j unused
  unfolding linked
  cells i j a b =
      ap (λ (m : List ℕ). cell width m i j) (metrics_accepted New f t table_sized file_passed)
      ∙ cell_tabulate width (λ i j. listed_metric (links f) (link_count f) i j unused) i j a b

  -- The links that the file lists are what the table holds: the cell of each listed pair has the metric of its link,
  pub link_cell :
      (e : ℕ)
      → e < link_count f
      → cell width (metrics_of f t) (from (links f) e) (to (links f) e) ≡ metric (links f) e
  link_cell e h =
      let most = router_count_most (routers f) file_accepted.routers_in in
      let l = (file_accepted.each_link e h).entry in
      cells (from (links f) e) (to (links f) e) (omega (arith, l.from_in)) (omega (arith, l.to_in))
      ∙ given_at (links f) (link_count f) unused (λ d b. (file_accepted.each_link d b).new) e h

  -- the cell of every other pair is unused,
  pub other_cell :
      (i j : ℕ)
      → i < width
      → j < width
      → ((e : ℕ) → e < link_count f → is_for_pair (links f) e i j ≡ false)
      → cell width (metrics_of f t) i j ≡ unused
  other_cell i j a b none = cells i j a b ∙ given_none (links f) (link_count f) i j unused none

  -- and so each used cell is that of a listed link.
  pub cell_link :
      (i j : ℕ)
      → i < width
      → j < width
      → cell width (metrics_of f t) i j ≢ unused
      → (e : ℕ)
      × (e < link_count f)
      × (is_for_pair (links f) e i j ≡ true)
      × (cell width (metrics_of f t) i j ≡ metric (links f) e)
  cell_link i j a b used =
      ⊎_elim
      (λ c. (c.0, c.1, c.2, cells i j a b ∙ c.3))
      (λ u. absurd (used (cells i j a b ∙ u)))
      (given_cases (links f) (link_count f) i j unused)

  -- the length is what the counts say
  pub file_size : length f ≡ 10 + 5 * link_count f + 5 * change_count f + 3 * step_count New f
  file_size = omega (arith, file_accepted.size)

  pub file_largest : length f ≤ largest
  file_largest = accepted_largest New f file_accepted

  -- The parts that Plan and Step get lie in the file: they are as long as their counts say.
  pub changes_length : length (changes f) ≡ 5 * change_count f
  changes_length =
      let room = length-drop (changes_at f) f in
      length-take-le (5 * change_count f) (drop (changes_at f) f) (omega (arith, file_size, room))

  pub steps_length : length (steps New f) ≡ 3 * step_count New f
  steps_length =
      let room = length-drop (steps_at New f) f in
      length-take-le (3 * step_count New f) (drop (steps_at New f) f) (omega (arith, file_size, room))

  pub changes_count : entry_count (changes f) ≡ change_count f
  changes_count = entry_count_is (changes f) (change_count f) changes_length

-- ---- what an accepted file says of itself
module _ (format : Format) (f : List ℕ) where
  pub contents_n : (contents format f).n ≡ routers f
  unfolding contents
  contents_n = refl

  pub contents_links : (contents format f).links ≡ link_count f
  unfolding contents
  contents_links = refl

  pub contents_changes :
      ((contents format f).changes.at ≡ changes_at f)
      × ((contents format f).changes.count ≡ change_count f)
  unfolding contents
  contents_changes = (refl, refl)

  pub contents_steps :
      ((contents format f).steps.at ≡ steps_at format f)
      × ((contents format f).steps.count ≡ step_count format f)
  unfolding contents
  contents_steps = (refl, refl)

  pub contents_times :
      ((contents format f).hold_time ≡ hold_time format f)
      × ((contents format f).step_time ≡ step_time format f)
  unfolding contents
  contents_times = (refl, refl)

-- what is handed back with a refusal
pub no_contents_zeros :
    no_contents
    ≡ record {
      n = 0;
      links = 0;
      changes = record { count = 0; at = 0 };
      steps = record { count = 0; at = 0 };
      hold_time = 0;
      step_time = 0;
    }
unfolding no_contents
no_contents_zeros = refl

pub no_contents_n : no_contents.n ≡ 0
unfolding no_contents
no_contents_n = refl

pub no_contents_changes : (no_contents.changes.at ≡ 0) × (no_contents.changes.count ≡ 0)
unfolding no_contents
no_contents_changes = (refl, refl)

-- ---- a file that is longer than the largest
pub long_refused : (format : Format) (f : List ℕ) → largest < length f → file_refusal format f ≢ 0
long_refused format f long z =
    let most = accepted_largest format f (accepted_of format f z) in
    let x : ⊥ = omega arith in
    x

-- two such files, with the same bytes at every place up to `largest`
module _
    (format : Format)
    (f g : List ℕ)
    (long-f : largest < length f)
    (long-g : largest < length g)
    (same : (i : ℕ) → i ≤ largest → get_or f i 0 ≡ get_or g i 0)
  where
    same_two : (i : ℕ) → i < largest → two f i ≡ two g i
    same_two i h = ap₂ (λ (x y : ℕ). 256 * x + y) (same i (omega arith)) (same (i + 1) (omega arith))

    same_routers : routers f ≡ routers g
    same_routers = same 0 (omega arith)

    same_count : link_count f ≡ link_count g
    same_count = same_two 1 (omega arith)

    -- the links and what follows them, where the count of the links is not refused
    module _ (most : link_count f ≤ width * (width - 1)) where
      whole : (l : List ℕ) → largest < length l → (e : ℕ) → e < link_count f → e < entry_count (links l)
      whole l long e h =
          let all = entry_count_least (links l) (link_count f) (omega (arith, length-drop 3 l)) in
          omega arith

      same_entry : (e : ℕ) → e < link_count f → entry_of (links f) e ≡ entry_of (links g) e
      same_entry e h =
          entry_same (links f) (links g) e (whole f long-f e h) (whole g long-g e h)
          (λ i b. get_or-drop 3 f i 0 ∙ same (3 + i) (omega arith) ∙ sym (get_or-drop 3 g i 0))

      same_link :
          (e : ℕ)
          → e < link_count f
          → link_refusal format (routers f) (links f) e ≡ link_refusal format (routers g) (links g) e
      same_link e h =
          link_same format (routers f) (links f) (links g) e (whole f long-f e h) (whole g long-g e h)
          (λ d b. same_entry d (omega arith))
          ∙ ap (λ (n : ℕ). link_refusal format n (links g) e) same_routers

      same_first : links_refusal format f ≡ links_refusal format g
      same_first =
          first_same (link_count f) (link_refusal format (routers f) (links f)) _ same_link
          ∙ ap (λ (k : ℕ). first k (link_refusal format (routers g) (links g))) same_count

      same_changes : change_count f ≡ change_count g
      same_changes = same (change_count_at f) (omega arith) ∙ ap (λ (k : ℕ). get_or g (3 + 5 * k) 0) same_count

      same_steps : change_count f ≤ most_changes → step_count format f ≡ step_count format g
      same_steps b =
          same_two (step_count_at format f) (omega (arith, times_most format))
          ∙ ap (two g) (omega (arith, same_count, same_changes))

      same_rest : rest_refusal format f ≡ rest_refusal format g
      same_rest =
          by_tests same_count same_changes (dec_lt most_changes (change_count f))
          (dec_lt most_steps (step_count format f))
        where
          by_tests :
              link_count f ≡ link_count g
              → change_count f ≡ change_count g
              → Dec (most_changes < change_count f)
              → Dec (most_steps < step_count format f)
              → rest_refusal format f ≡ rest_refusal format g
          by_tests k x (yes b) d =
              rest_many_changes format f (omega arith) b
              ∙ sym (rest_many_changes format g (omega arith) (omega arith))
          by_tests k x (no b) (yes d) =
              let y = same_steps (omega arith) in
              let z = times_most format in
              rest_many_steps format f (omega arith) (omega arith) (omega arith) d
              ∙ sym (rest_many_steps format g (omega arith) (omega arith) (omega arith) (omega arith))
          by_tests k x (no b) (no d) =
              let y = same_steps (omega arith) in
              let z = times_most format in
              rest_more format f (omega arith) (omega arith) (omega arith) (omega arith) (omega arith) (omega arith)
              ∙ sym
              (rest_more format g (omega arith) (omega arith) (omega arith) (omega arith) (omega arith) (omega arith))

    same_refusal : file_refusal format f ≡ file_refusal format g
    same_refusal = by_tests (look (is_router_count (routers f))) (dec_lt (most_links (routers f)) (link_count f))
      where
        same_range : is_router_count (routers g) ≡ is_router_count (routers f)
        same_range = ap is_router_count (sym same_routers)

        same_pairs : most_links (routers f) ≡ most_links (routers g)
        same_pairs = ap most_links same_routers

        by_tests :
            (is_router_count (routers f) ≡ true) ⊎ (is_router_count (routers f) ≡ false)
            → Dec (most_links (routers f) < link_count f)
            → file_refusal format f ≡ file_refusal format g
        by_tests (inr b) d =
            file_count format f (omega arith) b
            ∙ sym (file_count format g (omega arith) (same_range ∙ b))
        by_tests (inl b) (yes d) =
            let many-g : most_links (routers g) < link_count g = omega (arith, same_pairs, same_count) in
            file_many format f (omega arith) b (omega arith) d
            ∙ sym (file_many format g (omega arith) (same_range ∙ b) (omega arith) many-g)
        by_tests (inl b) (no d) = by_links (ℕ_discrete (links_refusal format f) 0)
          where
            few_f : link_count f ≤ most_links (routers f)
            few_f = omega arith

            few_g : link_count g ≤ most_links (routers g)
            few_g = omega (arith, same_pairs, same_count)

            most : link_count f ≤ width * (width - 1)
            most = links_most f b few_f

            by_links : Dec (links_refusal format f ≡ 0) → file_refusal format f ≡ file_refusal format g
            by_links (yes e) =
                file_rest format f (omega arith) b (omega arith) few_f e
                ∙ same_rest most
                ∙ sym
                (file_rest format g (omega arith) (same_range ∙ b) (omega arith) few_g (sym (same_first most) ∙ e))
            by_links (no e) =
                file_link format f (omega arith) b (omega arith) few_f e
                ∙ same_first most
                ∙ sym
                (file_link format g (omega arith) (same_range ∙ b) (omega arith) few_g
                (λ z. e (same_first most ∙ z)))

-- So the first bytes of an input are enough, if they are more than the largest file has: for its refusal,
pub first_refusal :
    (format : Format) (f : List ℕ) (k : ℕ)
    → largest < k
    → file_refusal format (take k f) ≡ file_refusal format f
first_refusal format f k more = by_length (dec_lt k (length f))
  where
    by_length : Dec (k < length f) → file_refusal format (take k f) ≡ file_refusal format f
    by_length (no a) = ap (file_refusal format) (take_all k f (omega arith))
    by_length (yes a) =
        let size = length-take-le k f (omega arith) in
        same_refusal format (take k f) f (omega arith) (omega arith) (λ i h. get_or-take k f i 0 (omega arith))

-- Read does the same with both files
abbrev pub Alike : (f g t : List ℕ) → Type 0
Alike f g t =
    (read_refusal f t ≡ read_refusal g t)
    × (contents_of f t ≡ contents_of g t)
    × (metrics_of f t ≡ metrics_of g t)

-- where both are refused, and for the same reason
refused_alike :
    (f g t : List ℕ)
    → file_refusal New f ≢ 0
    → file_refusal New f ≡ file_refusal New g
    → Alike f g t
refused_alike f g t bad same = by_size (ℕ_discrete (length t) (width * width))
  where
    same_contents :
        read_refusal f t ≢ 0
        → read_refusal f t ≡ read_refusal g t
        → contents_of f t ≡ contents_of g t
    same_contents some r = contents_refused f t some ∙ sym (contents_refused g t (λ z. some (r ∙ z)))

    by_size : Dec (length t ≡ width * width) → Alike f g t
    by_size (yes a) =
        let r = read_file f t a ∙ same ∙ sym (read_file g t a) in (
          r,
          same_contents (λ z. bad (sym (read_file f t a) ∙ z)) r,
          metrics_refused New f t a bad ∙ sym (metrics_refused New g t a (λ z. bad (same ∙ z))),
        )
    by_size (no a) =
        let size = read_size f t a in
        let r = size ∙ sym (read_size g t a) in (
          r,
          same_contents (λ z. let x : ⊥ = omega arith in x) r,
          metrics_kept New f t a ∙ sym (metrics_kept New g t a),
        )

-- and so for all that Read does.
pub first_bytes : (f t : List ℕ) (k : ℕ) → largest < k → Alike (take k f) f t
first_bytes f t k more = by_length (dec_lt k (length f))
  where
    by_length : Dec (k < length f) → Alike (take k f) f t
    by_length (no a) =
        let all = take_all k f (omega arith) in (
          ap (λ (l : List ℕ). read_refusal l t) all,
          ap (λ (l : List ℕ). contents_of l t) all,
          ap (λ (l : List ℕ). metrics_of l t) all,
        )
    by_length (yes a) =
        let size = length-take-le k f (omega arith) in
        refused_alike (take k f) f t (long_refused New (take k f) (omega arith)) (first_refusal New f k more)
