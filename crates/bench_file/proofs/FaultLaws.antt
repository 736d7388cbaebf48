-- Laws of the faults: those by which the code is proved, and what is known of a file that has none.
--     read_changes, times_place, read_steps    the counts that code has read, and the place of the times
--     dead_taken, dead_told, live_passes       the refusal of a dead link, by the format
--     link_cut, link_whole, link_passes        the refusals of a link
--     link_sound, link_same                    what is known of a link that is not refused; the same link elsewhere
--     rest-.., file-..                         the refusals of what follows the links, and of the file
--     most_links_is, pairs_most                the limit of the links
--     Accepted, accepted_of, of_accepted       a file is not refused exactly where all of this is known of it
-- The definitions are ladders of tests, so there is one law for each rung: the tests above it fail, this one holds, and
-- so the refusal is that of the rung. A section has its law, and within it each test that failed has a name. A file
-- that is not refused is on no rung of either ladder: that gives `Accepted`, field by field.
use Rattle.std.specs.Prelude.{ℕ, ◌+◌, ◌-◌, ◌*◌, ◌≤◌, ◌<◌, ◌≡◌, Bool, true, false, not, ◌≢◌, ◌⊎◌, List, ltb, length}
use Rattle.std.specs.Prelude.{get_or}
use Rattle.std.proofs.Math.Path.{refl}
use Rattle.std.proofs.Common.{sym, ap, ◌∙◌, inl, inr, ⊎_elim, mul-le-mul, arith}
use Rattle.std.proofs.Math.Decide.{dec_lt, ℕ_discrete}
use borrow.Author.Tests.{lt-ltb, le-ltb}
use Rattle.area.specs.Bytes.{two}
use Rattle.area.specs.Limits.{width, most_changes, most_steps}
use Rattle.area.specs.Refusals.{incomplete, trailing, router_count, repeated, too_many, dead_link}
use Rattle.area.specs.Tests.{pick, or_then}
use Rattle.area.proofs.TestLaws.{look, and_false, and_one, then_some, then_none, then_both, first_none, none_first}
use Rattle.area.specs.Sizes.{is_router_count}
use Rattle.entries.specs.declared.Entry.{Entry}
use Rattle.entries.specs.Entries.{entry_count, entry_of, from, to, is_free, is_first, entry_refusal}
use Rattle.entries.proofs.EntryLaws.{Faultless, faultless, faultless_of, free_same}
use Rattle.bench_file.specs.declared.Format.{Format}
use Rattle.bench_file.specs.Formats.{takes_dead, times_size}
use Rattle.bench_file.specs.Sections.{routers, link_count, links}
use Rattle.bench_file.specs.Sections.{change_count, changes_at, times_at, step_count, steps_at, end}
use Rattle.bench_file.specs.Faults.{most_links, is_dead, dead_refusal, link_refusal, links_refusal, rest_refusal}
use Rattle.bench_file.specs.Faults.{file_refusal}

-- ---- the counts that code has read, one after another
module _ (f : List ℕ) {k : ℕ} (is : k ≡ link_count f) {x : ℕ} (told : x ≡ get_or f (3 + 5 * k) 0) where
  pub read_changes : x ≡ change_count f
  read_changes = told ∙ ap (λ (i : ℕ). get_or f (3 + 5 * i) 0) is

  pub times_place : 3 + 5 * k + 1 + 5 * x ≡ times_at f
  times_place = omega (arith, is, read_changes)

  pub read_steps :
      (format : Format) {z y : ℕ}
      → z ≡ times_size format
      → y ≡ two f (3 + 5 * k + 1 + 5 * x + z)
      → y ≡ step_count format f
  read_steps format times e = e ∙ ap (two f) (omega (arith, is, read_changes, times))

-- ---- dead links
-- the format of stored files takes them
pub dead_taken : (format : Format) (x : Entry) → takes_dead format ≡ true → dead_refusal format x ≡ 0
unfolding dead_refusal
dead_taken format x t = rw (and_false (is_dead x) (not (takes_dead format)) (rw t refl)) refl

-- in the other one the metric tells
pub dead_told :
    (format : Format) (x : Entry)
    → takes_dead format ≡ false
    → dead_refusal format x ≡ pick (is_dead x) dead_link 0
unfolding dead_refusal
dead_told format x t = rw (t, and_one (is_dead x)) refl

-- and none refuses a link that is not dead
pub live_passes : (format : Format) (x : Entry) → is_dead x ≡ false → dead_refusal format x ≡ 0
unfolding dead_refusal
live_passes format x e = rw e refl

-- ---- the links
pub record Link (format : Format) (n : ℕ) (l : List ℕ) (e : ℕ) : Type 0 where
  pub whole : e < entry_count l
  pub entry : Faultless n (entry_of l e)
  pub taken : dead_refusal format (entry_of l e) ≡ 0
  pub new : is_first l e ≡ true

-- the link x, whose bytes are all there, where `new` says whether its pair is
abbrev pub whole_refusal : (format : Format) (n : ℕ) (x : Entry) (new : Bool) → ℕ
whole_refusal format n x new = or_then (entry_refusal n x) (or_then (dead_refusal format x) (pick new 0 repeated))

module _ (format : Format) (n : ℕ) (l : List ℕ) (e : ℕ) where
  pub link_cut : entry_count l ≤ e → link_refusal format n l e ≡ incomplete
  unfolding link_refusal
  link_cut a = rw (le-ltb e (entry_count l) a) refl

  pub link_whole : e < entry_count l → link_refusal format n l e ≡ whole_refusal format n (entry_of l e) (is_first l e)
  unfolding link_refusal
  link_whole a = rw (lt-ltb e (entry_count l) a) refl

  pub link_passes : Link format n l e → link_refusal format n l e ≡ 0
  link_passes x =
      let good = x.entry in
      let faults = faultless n (entry_of l e) good.from_in good.to_in good.apart good.some in
      link_whole x.whole
      ∙ then_none (entry_refusal n (entry_of l e)) _ faults
      ∙ then_none (dead_refusal format (entry_of l e)) _ x.taken
      ∙ rw x.new refl

  pub link_sound : link_refusal format n l e ≡ 0 → Link format n l e
  link_sound z = by_length (dec_lt e (entry_count l))
    where
      never : is_first l e ≡ false → pick (is_first l e) 0 repeated ≡ 0 → ⊥
      never f q = let seven : repeated ≡ 0 = rw f at q in omega (arith, seven)

      by_length : Dec (e < entry_count l) → Link format n l e
      by_length (no a) = absurd (let cut = link_cut (omega arith) in let x : ⊥ = omega (arith, cut, z) in x)
      by_length (yes a) =
          let own = then_both (entry_refusal n (entry_of l e)) _ (sym (link_whole a) ∙ z) in
          let rest = then_both (dead_refusal format (entry_of l e)) _ own.1 in
          record {
            whole = a;
            entry = faultless_of n (entry_of l e) own.0;
            taken = rest.0;
            new = ⊎_elim (λ t. t) (λ f. absurd (never f rest.1)) (look (is_first l e));
          }

-- two lists with the same entries up to e
pub link_same :
    (format : Format) (n : ℕ) (l m : List ℕ) (e : ℕ)
    → e < entry_count l
    → e < entry_count m
    → ((d : ℕ) → d ≤ e → entry_of l d ≡ entry_of m d)
    → link_refusal format n l e ≡ link_refusal format n m e
link_same format n l m e a b same =
    let own = same e (omega arith) in
    let free = free_same l m e (from m e) (to m e) (λ d h. same d (omega arith)) in
    link_whole format n l e a
    ∙ ap (λ (x : Entry). whole_refusal format n x (is_free l e x.from x.to)) own
    ∙ ap (whole_refusal format n (entry_of m e)) free
    ∙ sym (link_whole format n m e b)

-- ---- what follows the links
module _ (format : Format) (f : List ℕ) where
  pub rest_cut_count : length f < changes_at f → rest_refusal format f ≡ incomplete
  unfolding rest_refusal
  rest_cut_count a = rw (lt-ltb (length f) (changes_at f) a) refl

  module _ (a : changes_at f ≤ length f) where
    count_there : ltb (length f) (changes_at f) ≡ false
    count_there = le-ltb (length f) (changes_at f) a

    pub rest_many_changes : most_changes < change_count f → rest_refusal format f ≡ too_many
    unfolding rest_refusal
    rest_many_changes b = rw (count_there, lt-ltb most_changes (change_count f) b) refl

    module _ (b : change_count f ≤ most_changes) where
      few_changes : ltb most_changes (change_count f) ≡ false
      few_changes = le-ltb most_changes (change_count f) b

      pub rest_cut_changes : length f < steps_at format f → rest_refusal format f ≡ incomplete
      unfolding rest_refusal
      rest_cut_changes c = rw (count_there, few_changes, lt-ltb (length f) (steps_at format f) c) refl

      module _ (c : steps_at format f ≤ length f) where
        changes_there : ltb (length f) (steps_at format f) ≡ false
        changes_there = le-ltb (length f) (steps_at format f) c

        pub rest_many_steps : most_steps < step_count format f → rest_refusal format f ≡ too_many
        unfolding rest_refusal
        rest_many_steps d = rw (count_there, few_changes, changes_there, lt-ltb most_steps (step_count format f) d) refl

        module _ (d : step_count format f ≤ most_steps) where
          few_steps : ltb most_steps (step_count format f) ≡ false
          few_steps = le-ltb most_steps (step_count format f) d

          pub rest_cut_steps : length f < end format f → rest_refusal format f ≡ incomplete
          unfolding rest_refusal
          rest_cut_steps e =
              rw (count_there, few_changes, changes_there, few_steps, lt-ltb (length f) (end format f) e) refl

          module _ (e : end format f ≤ length f) where
            steps_there : ltb (length f) (end format f) ≡ false
            steps_there = le-ltb (length f) (end format f) e

            pub rest_more : end format f < length f → rest_refusal format f ≡ trailing
            unfolding rest_refusal
            rest_more g =
                rw (count_there, few_changes, changes_there, few_steps, steps_there)
                (rw (lt-ltb (end format f) (length f) g) refl)

            pub rest_passes : length f ≤ end format f → rest_refusal format f ≡ 0
            unfolding rest_refusal
            rest_passes g =
                rw (count_there, few_changes, changes_there, few_steps, steps_there)
                (rw (le-ltb (end format f) (length f) g) refl)

-- ---- the file
pub most_links_is : (n : ℕ) → most_links n ≡ n * (n - 1)
unfolding most_links
most_links_is n = refl

-- `width` routers have the most
pub pairs_most : (n : ℕ) → n ≤ width → n * (n - 1) ≤ width * (width - 1)
pairs_most n h = let less : n - 1 ≤ width - 1 = omega arith in mul-le-mul h less

module _ (format : Format) (f : List ℕ) where
  pub file_empty : length f < 1 → file_refusal format f ≡ incomplete
  unfolding file_refusal
  file_empty a = rw (lt-ltb (length f) 1 a) refl

  module _ (a : 1 ≤ length f) where
    some_byte : ltb (length f) 1 ≡ false
    some_byte = le-ltb (length f) 1 a

    pub file_count : is_router_count (routers f) ≡ false → file_refusal format f ≡ router_count
    unfolding file_refusal
    file_count b = rw (some_byte, b) refl

    module _ (b : is_router_count (routers f) ≡ true) where
      pub file_cut : length f < 3 → file_refusal format f ≡ incomplete
      unfolding file_refusal
      file_cut c = rw (some_byte, b, lt-ltb (length f) 3 c) refl

      module _ (c : 3 ≤ length f) where
        three_bytes : ltb (length f) 3 ≡ false
        three_bytes = le-ltb (length f) 3 c

        pub file_many : most_links (routers f) < link_count f → file_refusal format f ≡ too_many
        unfolding file_refusal
        file_many d = rw (some_byte, b, three_bytes, lt-ltb (most_links (routers f)) (link_count f) d) refl

        module _ (d : link_count f ≤ most_links (routers f)) where
          few_links : ltb (most_links (routers f)) (link_count f) ≡ false
          few_links = le-ltb (most_links (routers f)) (link_count f) d

          pub file_link : links_refusal format f ≢ 0 → file_refusal format f ≡ links_refusal format f
          unfolding file_refusal
          file_link e = rw (some_byte, b, three_bytes, few_links) (then_some _ (rest_refusal format f) e)

          pub file_rest : links_refusal format f ≡ 0 → file_refusal format f ≡ rest_refusal format f
          unfolding file_refusal
          file_rest e = rw (some_byte, b, three_bytes, few_links) (then_none _ (rest_refusal format f) e)

-- ---- a file that is not refused
pub record Accepted (format : Format) (f : List ℕ) : Type 0 where
  pub routers_in : is_router_count (routers f) ≡ true
  pub most_links_lem : link_count f ≤ most_links (routers f)
  pub each_link : (e : ℕ) → e < link_count f → Link format (routers f) (links f) e
  pub most_changes_lem : change_count f ≤ most_changes
  pub most_steps_lem : step_count format f ≤ most_steps
  pub size : length f ≡ end format f

-- what is known where the rest is not refused
abbrev RestAccepted : (format : Format) (f : List ℕ) → Type 0
RestAccepted format f = (change_count f ≤ most_changes) × (step_count format f ≤ most_steps) × (length f ≡ end format f)

rest_of : (format : Format) (f : List ℕ) → rest_refusal format f ≡ 0 → RestAccepted format f
rest_of format f z =
    by_tests
    (dec_lt (length f) (changes_at f))
    (dec_lt most_changes (change_count f))
    (dec_lt (length f) (steps_at format f))
    (dec_lt most_steps (step_count format f))
    (dec_lt (length f) (end format f))
    (dec_lt (end format f) (length f))
  where
    never : {A : Type 0} (k : ℕ) → 1 ≤ k → rest_refusal format f ≡ k → A
    never k p q = absurd (let x : ⊥ = omega arith in x)

    by_tests :
        Dec (length f < changes_at f)
        → Dec (most_changes < change_count f)
        → Dec (length f < steps_at format f)
        → Dec (most_steps < step_count format f)
        → Dec (length f < end format f)
        → Dec (end format f < length f)
        → RestAccepted format f
    by_tests (yes a) b c d e g = never incomplete (omega arith) (rest_cut_count format f a)
    by_tests (no a) (yes b) c d e g = never too_many (omega arith) (rest_many_changes format f (omega arith) b)
    by_tests (no a) (no b) (yes c) d e g =
        never incomplete (omega arith) (rest_cut_changes format f (omega arith) (omega arith) c)
    by_tests (no a) (no b) (no c) (yes d) e g =
        never too_many (omega arith) (rest_many_steps format f (omega arith) (omega arith) (omega arith) d)
    by_tests (no a) (no b) (no c) (no d) (yes e) g =
        never incomplete (omega arith)
        (rest_cut_steps format f (omega arith) (omega arith) (omega arith) (omega arith) e)
    by_tests (no a) (no b) (no c) (no d) (no e) (yes g) =
        never trailing (omega arith)
        (rest_more format f (omega arith) (omega arith) (omega arith) (omega arith) (omega arith) g)
    by_tests (no a) (no b) (no c) (no d) (no e) (no g) = (omega arith, omega arith, omega arith)

pub accepted_of : (format : Format) (f : List ℕ) → file_refusal format f ≡ 0 → Accepted format f
accepted_of format f z =
    by_tests
    (dec_lt (length f) 1)
    (look (is_router_count (routers f)))
    (dec_lt (length f) 3)
    (dec_lt (most_links (routers f)) (link_count f))
  where
    never : {A : Type 0} (k : ℕ) → 1 ≤ k → file_refusal format f ≡ k → A
    never k p q = absurd (let x : ⊥ = omega arith in x)

    by_tests :
        Dec (length f < 1)
        → (is_router_count (routers f) ≡ true) ⊎ (is_router_count (routers f) ≡ false)
        → Dec (length f < 3)
        → Dec (most_links (routers f) < link_count f)
        → Accepted format f
    by_tests (yes a) b c d = never incomplete (omega arith) (file_empty format f a)
    by_tests (no a) (inr b) c d = never router_count (omega arith) (file_count format f (omega arith) b)
    by_tests (no a) (inl b) (yes c) d = never incomplete (omega arith) (file_cut format f (omega arith) b c)
    by_tests (no a) (inl b) (no c) (yes d) =
        never too_many (omega arith) (file_many format f (omega arith) b (omega arith) d)
    by_tests (no a) (inl b) (no c) (no d) = record {
      routers_in = b;
      most_links_lem = omega arith;
      each_link = λ e h. link_sound format (routers f) (links f) e (none_first _ (link_count f) both.0 e h);
      most_changes_lem = (rest_of format f both.1).0;
      most_steps_lem = (rest_of format f both.1).1;
      size = (rest_of format f both.1).2;
    }
      where
        both : (links_refusal format f ≡ 0) × (rest_refusal format f ≡ 0)
        both =
            elim (ℕ_discrete (links_refusal format f) 0) [
              | yes e ↦ (e, sym (file_rest format f (omega arith) b (omega arith) (omega arith) e) ∙ z)
              | no g ↦ absurd (g (sym (file_link format f (omega arith) b (omega arith) (omega arith) g) ∙ z))
            ]

pub of_accepted : (format : Format) (f : List ℕ) → Accepted format f → file_refusal format f ≡ 0
of_accepted format f good =
    let size = good.size in
    file_rest format f (omega arith) good.routers_in (omega arith) good.most_links_lem each_passes
    ∙ rest_passes format f (omega arith) good.most_changes_lem (omega arith) good.most_steps_lem (omega arith)
    (omega arith)
  where
    each_passes : links_refusal format f ≡ 0
    each_passes =
        first_none (link_refusal format (routers f) (links f)) (link_count f)
        (λ e h. link_passes format (routers f) (links f) e (good.each_link e h))
