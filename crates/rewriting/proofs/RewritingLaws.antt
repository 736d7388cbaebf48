-- Laws of the rewritten file, for every file f that the old reader accepts (02, No. 5).
--     rewritten_length, rewritten_most         it is five bytes shorter for each link that is dropped, and four longer
--     rewritten_routers, rewritten_changes, rewritten_steps        n, the changes and the steps are those of f
--     rewritten_times          its hold time is 0 and its step time 1
--     rewritten_accepted       Read accepts it
--     rewritten_metrics        and gives the table that the old reader gave for f
--     rewritten_once           the old reader refuses it, so that it is not rewritten again
--     rewritten_same           where no link of f is dead, it is f with the times put in
-- And for every file:
--     written_refused, written_accepted        what is written: the line of a refusal alone, or the rewritten file
--     read_parts                               what an accepted file says of itself, as code reads it
--     appended_rest, appended_file             the rewritten file, as code writes it
--     written_first, written_room              the first bytes of an input decide, and there is room for all of it
-- The links that are kept are links of f (LiveLaws.antt), so the new reader refuses none of them; the changes and,
-- after the times, all bytes from the count of the steps on are those of f, at another place (behind, later).
use Prim.Native.Nat.{ℕ, suc, ◌+◌, ◌*◌, ◌-◌, ◌/◌, ◌%◌, ◌≤◌, ◌<◌}
use Rattle.std.specs.Prelude.{◌≡◌, true, false, ◌≢◌, length, drop}
use Rattle.std.proofs.Math.Path.{refl, ap, ap₂, subst}
use Rattle.std.proofs.Common.{sym, ◌∙◌, eq-eqb, ne_eqb, take-append-drop, take_all, length-take-le, drop-cons}
use Rattle.std.proofs.Common.{get_or-drop, get_or-append-add, drop-drop}
use mathlib.Core.List.{List, [], ◌∷◌, ◌++◌, append_assoc}
use Rattle.std.proofs.Math.Decide.{dec_lt, ℕ_discrete}
use native.Mathlib.Omega.{arith}
use Rattle.std.proofs.Math.ListN.{get_or, take, length-append, length-drop, length-take}
use Rattle.std.proofs.Math.Seq.{take-append_seam, take-append-add, drop-append-add}
use Rattle.area.specs.Limits.{width}
use Rattle.area.specs.Sizes.{is_router_count}
use Rattle.entries.specs.Entries.{entry_count, entry_of}
use Rattle.entries.proofs.EntryLaws.{Faultless, entry_count_is, entry_count_least}
use Rattle.bench_file.specs.declared.Format.TheVariants.{Old, New}
use Rattle.bench_file.specs.Sections.{routers, link_count, links, change_count_at, change_count, changes_at, changes}
use Rattle.bench_file.specs.Sections.{times_at, hold_time, step_time, step_count, steps_at, steps, largest}
use Rattle.bench_file.specs.Faults.{is_dead, file_refusal}
use Rattle.bench_file.proofs.FaultLaws.{live_passes, Link, Accepted, accepted_of, of_accepted}
use Rattle.bench_file.specs.declared.Contents.{Contents}
use Rattle.bench_file.specs.Read.{contents, contents_by, metrics_by, metrics_of}
use Rattle.bench_file.proofs.ReadLaws.{by_accepted, metrics_kept, metrics_accepted, linked_same}
use Rattle.area.proofs.RefusalLaws.{refusal_positive}
use Rattle.area.proofs.SizeLaws.{router_count_most}
use Rattle.bench_file.proofs.FileLaws.{links_most, contents_n, contents_links, contents_changes}
use Rattle.bench_file.proofs.FileLaws.{accepted_most, one_format, long_refused, first_refusal}
use Rattle.text.specs.Text.{Writes, refused_line}
use Rattle.text.specs.declared.writer.Writer.{Writer}
use Rattle.text.proofs.TextLaws.{refused_most}
use Rattle.text.proofs.WriterLaws.{writes_then}
use Rattle.rewriting.specs.Live.{live, live_count}
use Rattle.rewriting.specs.Rewriting.{kept_count, head, times, timed_rest, rewritten, written, Counted}
use Rattle.rewriting.proofs.LiveLaws.{Once, live_length, live_most, live_from, live_new, live_listed, live_all}
use Rattle.rewriting.proofs.LiveLaws.{live_cut}

-- a list with three numbers or more: these, and the rest
first_three : (f : List ℕ) → 3 ≤ length f → f ≡ get_or f 0 0 ∷ (get_or f 1 0 ∷ (get_or f 2 0 ∷ drop 3 f))
first_three [] h = absurd (let x : ⊥ = omega arith in x)
first_three (x ∷ []) h = absurd (let x : ⊥ = omega arith in x)
first_three (x ∷ (y ∷ [])) h = absurd (let x : ⊥ = omega arith in x)
first_three (x ∷ (y ∷ (z ∷ l))) h = refl

-- the first i + j of a list are its first i, and the first j of the rest
take_sum : (i j : ℕ) (l : List ℕ) → i ≤ length l → take (i + j) l ≡ take i l ++ take j (drop i l)
take_sum i j l h =
    let long = length-take-le i l h in
    ap (take (i + j)) (sym (take-append-drop i l))
    ∙ ap (λ (k : ℕ). take (k + j) (take i l ++ drop i l)) (sym long)
    ∙ take-append-add (take i l) (drop i l) j

-- the changes with their count
pub part_counted :
    (f : List ℕ) → change_count_at f < length f
    → take (1 + 5 * change_count f) (drop (change_count_at f) f) ≡ change_count f ∷ changes f
part_counted f h =
    ap (take (1 + 5 * change_count f)) (drop-cons f (change_count_at f) 0 h)
    ∙ ap (λ (k : ℕ). take k (change_count f ∷ drop (suc (change_count_at f)) f))
    (let x : 1 + 5 * change_count f ≡ suc (5 * change_count f) = omega arith in x)
    ∙ ap (λ (k : ℕ). change_count f ∷ take (5 * change_count f) (drop k f))
    (let x : suc (change_count_at f) ≡ changes_at f = omega arith in x)

module _ (f : List ℕ) (z : file_refusal Old f ≡ 0) where
  old : Accepted Old f
  old = accepted_of Old f z

  -- the links that are kept; what follows the changes in f; the changes with their count; and what follows the links
  abbrev kept : List ℕ
  kept = live (links f) (link_count f)

  abbrev rest : List ℕ
  rest = drop (times_at f) f

  abbrev counted : List ℕ
  counted = change_count f ∷ changes f

  abbrev after : List ℕ
  after = timed_rest f

  -- all links of f are there
  whole : 5 * link_count f ≤ length (links f)
  whole = omega (arith, old.size, length-drop 3 f)

  once : Once (links f) (link_count f)
  once e h = (old.each_link e h).new

  kept_length : length kept ≡ 5 * kept_count f
  kept_length = live_length (links f) (link_count f) whole

  kept_most : kept_count f ≤ link_count f
  kept_most = live_most (links f) (link_count f)

  -- ---- the sections
  pub rewritten_routers : routers (rewritten f) ≡ routers f
  unfolding rewritten
  rewritten_routers = refl

  pub rewritten_count : link_count (rewritten f) ≡ kept_count f
  unfolding rewritten
  rewritten_count = omega arith

  rewritten_links : links (rewritten f) ≡ kept ++ after
  unfolding rewritten
  rewritten_links = refl

  -- byte i from the count of the changes on, in the rewritten file
  place : (i : ℕ) → change_count_at (rewritten f) + i ≡ 3 + (length kept + i)
  place i = omega (arith, rewritten_count, kept_length)

  behind : (i : ℕ) → get_or (rewritten f) (change_count_at (rewritten f) + i) 0 ≡ get_or after i 0
  behind i =
      ap (λ (x : ℕ). get_or (rewritten f) x 0) (place i)
      ∙ sym (get_or-drop 3 (rewritten f) (length kept + i) 0)
      ∙ ap (λ (l : List ℕ). get_or l (length kept + i) 0) rewritten_links
      ∙ get_or-append-add kept after i 0

  behind_drop : (i : ℕ) → drop (change_count_at (rewritten f) + i) (rewritten f) ≡ drop i after
  behind_drop i =
      ap (λ (x : ℕ). drop x (rewritten f)) (place i)
      ∙ sym (drop-drop (length kept + i) 3 (rewritten f))
      ∙ ap (drop (length kept + i)) rewritten_links
      ∙ drop-append-add kept after i

  -- ---- the changes
  changes_long : length (changes f) ≡ 5 * change_count f
  changes_long =
      let room = length-drop (changes_at f) f in
      length-take-le (5 * change_count f) (drop (changes_at f) f) (omega (arith, old.size, room))

  counted_long : length counted ≡ 1 + 5 * change_count f
  counted_long = omega (arith, changes_long)

  same_changes : change_count (rewritten f) ≡ change_count f
  same_changes =
      ap (λ (k : ℕ). get_or (rewritten f) k 0) (let x : change_count_at (rewritten f) ≡ _ + 0 = omega arith in x)
      ∙ behind 0

  pub rewritten_changes : changes (rewritten f) ≡ changes f
  rewritten_changes =
      ap₂ (λ (x : ℕ) (l : List ℕ). take (5 * x) l) same_changes (behind_drop 1)
      ∙ ap (λ (k : ℕ). take k (changes f ++ (times ++ rest))) (sym changes_long)
      ∙ take-append_seam (changes f) (times ++ rest)

  -- ---- what follows them: the times, and then all that followed them in f
  at_times : (i : ℕ) → times_at (rewritten f) + i ≡ change_count_at (rewritten f) + (length counted + i)
  at_times i = omega (arith, same_changes, counted_long)

  later : (i : ℕ) → get_or (rewritten f) (times_at (rewritten f) + i) 0 ≡ get_or (times ++ rest) i 0
  later i =
      ap (λ (k : ℕ). get_or (rewritten f) k 0) (at_times i)
      ∙ behind (length counted + i)
      ∙ get_or-append-add counted (times ++ rest) i 0

  pub rewritten_times : (hold_time New (rewritten f) ≡ 0) × (step_time New (rewritten f) ≡ 1)
  rewritten_times = (
    omega (arith, at 0 (times_at (rewritten f)) (omega arith), later 1),
    omega (arith, later 2, at 3 (times_at (rewritten f) + 2 + 1) (omega arith)),
  )
    where
      at : (i x : ℕ) → x ≡ times_at (rewritten f) + i → get_or (rewritten f) x 0 ≡ get_or (times ++ rest) i 0
      at i x e = ap (λ (k : ℕ). get_or (rewritten f) k 0) e ∙ later i

  -- byte i after the times is that of f after the changes
  of_rest : (i : ℕ) → get_or (times ++ rest) (4 + i) 0 ≡ get_or f (times_at f + i) 0
  of_rest i = get_or-append-add times rest i 0 ∙ get_or-drop (times_at f) f i 0

  same_at :
      (i x y : ℕ)
      → x ≡ times_at (rewritten f) + (4 + i)
      → times_at f + i ≡ y
      → get_or (rewritten f) x 0 ≡ get_or f y 0
  same_at i x y a b =
      ap (λ (k : ℕ). get_or (rewritten f) k 0) a ∙ later (4 + i) ∙ of_rest i ∙ ap (λ (k : ℕ). get_or f k 0) b

  same_steps : step_count New (rewritten f) ≡ step_count Old f
  same_steps =
      ap₂ (λ (x y : ℕ). 256 * x + y)
      (same_at 0 _ _ (omega arith) (omega arith))
      (same_at 1 _ _ (omega arith) (omega arith))

  pub rewritten_steps : steps New (rewritten f) ≡ steps Old f
  rewritten_steps =
      let here : steps_at New (rewritten f) ≡ change_count_at (rewritten f) + (length counted + (4 + 2)) =
      omega (arith, same_changes, counted_long) in
      let there : times_at f + 2 ≡ steps_at Old f = omega arith in
      ap₂ (λ (x : ℕ) (l : List ℕ). take (3 * x) l) same_steps
      (ap (λ (x : ℕ). drop x (rewritten f)) here
      ∙ behind_drop (length counted + (4 + 2))
      ∙ drop-append-add counted (times ++ rest) (4 + 2)
      ∙ drop-append-add times rest 2
      ∙ drop-drop 2 (times_at f) f
      ∙ ap (λ (x : ℕ). drop x f) there)

  -- ---- its length: each link that is dropped took five bytes, and the times take four
  pub rewritten_length : length (rewritten f) + 5 * (link_count f - kept_count f) ≡ length f + 4
  unfolding rewritten
  rewritten_length =
      let joined = length-append kept after in
      let timed = length-append counted (times ++ rest) in
      let end = length-drop (times_at f) f in
      omega (arith, old.size, kept_length, kept_most, joined, timed, counted_long, end)

  pub rewritten_most : length (rewritten f) ≤ length f + 4
  rewritten_most = omega (arith, rewritten_length)

  -- ---- Read accepts it
  each : (e : ℕ) → e < kept_count f → Link New (routers f) (kept ++ after) e
  each e h =
      let x = live_from (links f) (link_count f) after whole e h in
      let was = old.each_link x.0 x.1 in
      let room : 5 * kept_count f ≤ length (kept ++ after) = omega (arith, kept_length, length-append kept after) in
      let long = entry_count_least (kept ++ after) (kept_count f) room in
      record {
        whole = omega (arith, long);
        entry = subst (Faultless (routers f)) (sym x.3) was.entry;
        taken = live_passes New (entry_of (kept ++ after) e) (ap is_dead x.3 ∙ x.2);
        new = live_new (links f) (link_count f) after whole once e h;
      }

  new_accepted : Accepted New (rewritten f)
  new_accepted = record {
    routers_in = subst (λ (n : ℕ). is_router_count n ≡ true) (sym rewritten_routers) old.routers_in;
    most_links_lem = rw (rewritten_count, rewritten_routers) (omega (arith, kept_most, old.most_links_lem));
    each_link = λ e h. rw (rewritten_links, rewritten_routers) (each e (omega (arith, rewritten_count, h)));
    most_changes_lem = omega (arith, same_changes, old.most_changes_lem);
    most_steps_lem = omega (arith, same_steps, old.most_steps_lem);
    size = omega (arith, rewritten_length, old.size, same_changes, same_steps, rewritten_count, kept_most);
  }

  pub rewritten_accepted : file_refusal New (rewritten f) ≡ 0
  rewritten_accepted = of_accepted New (rewritten f) new_accepted

  -- and the old reader does not
  pub rewritten_once : file_refusal Old (rewritten f) ≢ 0
  rewritten_once again = one_format (rewritten f) (accepted_of Old (rewritten f) again) new_accepted

  -- ---- and gives the table that the old reader gave, for a table t of any size
  pub rewritten_metrics : (t : List ℕ) → metrics_of (rewritten f) t ≡ metrics_by Old f t
  rewritten_metrics t = by_size (ℕ_discrete (length t) (width * width))
    where
      by_size : Dec (length t ≡ width * width) → metrics_of (rewritten f) t ≡ metrics_by Old f t
      by_size (no a) = metrics_kept New (rewritten f) t a ∙ sym (metrics_kept Old f t a)
      by_size (yes a) =
          metrics_accepted New (rewritten f) t a rewritten_accepted
          ∙ linked_same (links (rewritten f)) (links f) (link_count (rewritten f)) (link_count f)
          (λ i j. rw (rewritten_links, rewritten_count) (live_listed (links f) i j (link_count f) after whole once))
          ∙ sym (metrics_accepted Old f t a z)

  -- ---- a file of bytes, none of whose links is dead
  -- the bytes of f up to the times: n and the link count, the links, the changes with their count
  pub rewritten_same :
      ((k : ℕ) → get_or f k 0 < 256)
      → ((e : ℕ) → e < link_count f → is_dead (entry_of (links f) e) ≡ false)
      → rewritten f ≡ take (times_at f) f ++ (times ++ drop (times_at f) f)
  unfolding rewritten
  rewritten_same byte none =
      let all = live_all (links f) (link_count f) whole none in
      let high : kept_count f / 256 ≡ get_or f 1 0 = omega (arith, all.1, byte 2) in
      let low : kept_count f % 256 ≡ get_or f 2 0 = omega (arith, all.1, byte 2) in
      ap₂ (λ (x y : ℕ). routers f ∷ (x ∷ (y ∷ (kept ++ after)))) high low
      ∙ ap (λ (l : List ℕ). routers f ∷ (get_or f 1 0 ∷ (get_or f 2 0 ∷ (l ++ after)))) all.0
      ∙ ap (λ (l : List ℕ). routers f ∷ (get_or f 1 0 ∷ (get_or f 2 0 ∷ l))) joined
      ∙ ap (λ (l : List ℕ). l ++ (times ++ rest)) (sym front)
    where
      linked : List ℕ
      linked = take (5 * link_count f) (links f)

      joined : linked ++ after ≡ (linked ++ counted) ++ (times ++ rest)
      joined = sym (append_assoc linked counted (times ++ rest))

      -- the changes with their count, in f
      counted_part : take (1 + 5 * change_count f) (drop (change_count_at f) f) ≡ counted
      counted_part = part_counted f (omega (arith, old.size))

      front : take (times_at f) f ≡ routers f ∷ (get_or f 1 0 ∷ (get_or f 2 0 ∷ (linked ++ counted)))
      front =
          ap (take (times_at f)) (first_three f (omega (arith, old.size)))
          ∙ ap (λ (k : ℕ). take k (routers f ∷ (get_or f 1 0 ∷ (get_or f 2 0 ∷ links f))))
          (let x : times_at f ≡ suc (suc (suc (5 * link_count f + (1 + 5 * change_count f)))) = omega arith in x)
          ∙ ap (λ (l : List ℕ). routers f ∷ (get_or f 1 0 ∷ (get_or f 2 0 ∷ l)))
          (take_sum (5 * link_count f) (1 + 5 * change_count f) (links f) whole
          ∙ ap (λ (l : List ℕ). linked ++ take (1 + 5 * change_count f) l) (drop-drop (5 * link_count f) 3 f)
          ∙ ap (λ (l : List ℕ). linked ++ l) counted_part)

-- ---- what is written, as code appends it
module _ (f : List ℕ) where
  pub written_refused : file_refusal Old f ≢ 0 → written f ≡ refused_line (file_refusal Old f)
  unfolding written
  written_refused a = rw (ne_eqb (file_refusal Old f) 0 a) refl

  pub written_accepted : file_refusal Old f ≡ 0 → written f ≡ rewritten f
  unfolding written
  written_accepted a = rw (eq-eqb (file_refusal Old f) 0 a) refl

  -- the bytes from place k on, as they are lent
  abbrev lent : (k : ℕ) → List ℕ
  lent k = take (length f - k) (drop k f)

  pub lent_is : (k : ℕ) → lent k ≡ drop k f
  lent_is k =
      let size : length (drop k f) ≤ length f - k = omega (arith, length-drop k f) in
      take_all (length f - k) (drop k f) size

  -- the changes, the times and the rest, one after another
  pub appended_rest :
      (i j : ℕ)
      → i ≡ change_count_at f
      → j ≡ times_at f
      → times_at f ≤ length f
      → {u v w s : Writer}
      → Writes u (take (j - i) (drop i f)) v
      → Writes v times w
      → Writes w (lent j) s
      → Writes u (timed_rest f) s
  appended_rest i j from to long {u} {s = s} x y z =
      subst (λ (l : List ℕ). Writes u l s) parts (writes_then (writes_then x y) z)
    where
      changes_is : take (j - i) (drop i f) ≡ change_count f ∷ changes f
      changes_is =
          ap₂ (λ (i j : ℕ). take (j - i) (drop i f)) from to
          ∙ ap (λ (k : ℕ). take k (drop (change_count_at f) f))
          (let x : times_at f - change_count_at f ≡ 1 + 5 * change_count f = omega arith in x)
          ∙ part_counted f (omega arith)

      rest_is : lent j ≡ drop (times_at f) f
      rest_is = lent_is j ∙ ap (λ (k : ℕ). drop k f) to

      parts : (take (j - i) (drop i f) ++ times) ++ lent j ≡ timed_rest f
      parts =
          append_assoc (take (j - i) (drop i f)) times (lent j)
          ∙ ap₂ (λ (c r : List ℕ). c ++ (times ++ r)) changes_is rest_is

  -- n and the count, the links and what follows them, one after another
  module _ (n k at : ℕ) (read : Counted f n k at) where
    -- the links, as they are lent
    abbrev lent_links : List ℕ
    lent_links = take (3 + 5 * k - 3) (drop 3 f)

    links_long : length lent_links ≡ 5 * k
    links_long = omega (arith, length-take (3 + 5 * k - 3) (drop 3 f), length-drop 3 f, read.size, read.count_is)

    pub links_counted : entry_count lent_links ≡ k
    links_counted = entry_count_is lent_links k links_long

    pub links_whole : length lent_links ≡ 5 * entry_count lent_links
    links_whole = omega (arith, links_long, links_counted)

    links_are :
        (live lent_links (entry_count lent_links) ≡ live (links f) (link_count f))
        × (live_count lent_links (entry_count lent_links) ≡ kept_count f)
    links_are =
        let size = length-drop 3 f in
        let cut = live_cut (drop 3 f) (3 + 5 * k - 3) k (omega (arith, read.size, read.count_is)) (omega arith) in (
          ap (live lent_links) links_counted ∙ cut.0 ∙ ap (live (links f)) read.count_is,
          ap (live_count lent_links) links_counted ∙ cut.1 ∙ ap (live_count (links f)) read.count_is,
        )

    pub appended_file :
        (c : ℕ)
        → c ≡ live_count lent_links (entry_count lent_links)
        → {u v w s : Writer}
        → Writes u (head n c) v
        → Writes v (live lent_links (entry_count lent_links)) w
        → Writes w (timed_rest f) s
        → Writes u (rewritten f) s
    unfolding rewritten
    appended_file c counted {u} {s = s} x y z =
        subst (λ (l : List ℕ). Writes u l s) whole_text_lem (writes_then x (writes_then y z))
      where
        head_is : head n c ≡ head (routers f) (kept_count f)
        head_is = ap₂ head read.routers_is (counted ∙ links_are.1)

        whole_text_lem :
            head n c ++ (live lent_links (entry_count lent_links) ++ timed_rest f)
            ≡ rewritten f
        whole_text_lem = ap₂ (λ (h l : List ℕ). h ++ (l ++ timed_rest f)) head_is links_are.0

-- ---- what code reads of an accepted file: x is what `examine` gave
pub read_parts :
    (f : List ℕ) (x : Contents)
    → 0 ≡ file_refusal Old f
    → x ≡ contents_by Old f
    → Counted f x.n x.links (x.changes.at + 5 * x.changes.count)
read_parts f x told said = record {
  size = whole.size;
  routers_is = n_is;
  routers_most = omega (arith, n_is, router_count_most (routers f) whole.routers_in);
  count_is = links_is;
  count_most = omega (arith, links_is, links_most f whole.routers_in whole.most_links_lem);
  at_is = omega (arith, at_is, changes_is);
}
  where
    whole : Accepted Old f
    whole = accepted_of Old f (sym told)

    is-contents : x ≡ contents Old f
    is-contents = said ∙ by_accepted Old f (sym told)

    n_is : x.n ≡ routers f
    n_is = ap (λ (c : Contents). c.n) is-contents ∙ contents_n Old f

    links_is : x.links ≡ link_count f
    links_is = ap (λ (c : Contents). c.links) is-contents ∙ contents_links Old f

    at_is : x.changes.at ≡ changes_at f
    at_is = ap (λ (c : Contents). c.changes.at) is-contents ∙ (contents_changes Old f).0

    changes_is : x.changes.count ≡ change_count f
    changes_is = ap (λ (c : Contents). c.changes.count) is-contents ∙ (contents_changes Old f).1

-- ---- the program
-- The first bytes of an input decide, if they are more than the largest file has,
pub written_first : (f : List ℕ) (k : ℕ) → largest < k → written (take k f) ≡ written f
written_first f k more = by_length (dec_lt k (length f))
  where
    by_length : Dec (k < length f) → written (take k f) ≡ written f
    by_length (no a) = ap written (take_all k f (omega arith))
    by_length (yes a) =
        let same = first_refusal Old f k more in
        let bad = long_refused Old f (omega arith) in
        written_refused (take k f) (λ z. bad (sym same ∙ z))
        ∙ ap refused_line same
        ∙ sym (written_refused f bad)

-- and what is written has room in as many bytes as that.
pub written_room : (f : List ℕ) → length (written f) ≤ largest
written_room f = by_refusal (ℕ_discrete (file_refusal Old f) 0)
  where
    by_refusal : Dec (file_refusal Old f ≡ 0) → length (written f) ≤ largest
    by_refusal (yes z) =
        let short = accepted_most Old f (accepted_of Old f z) in
        omega (arith, ap length (written_accepted f z), rewritten_most f z, short)
    by_refusal (no a) = omega (arith, ap length (written_refused f a), refused_most (file_refusal Old f))

-- both returns of the code
pub ruleset returns = (read_parts, refusal_positive)
