-- Laws of the text of link-state data.
--     text_long, text_refused, text_accepted   what is appended, case by case
--     split_identities, split_lists            the parts of the stream, as they are lent
--     parts                                    what holds of them as they are lent holds of them
--     isis_is, isis_table_lem                  what is appended for the stream, and the table, are those of its parts
--     isis_room                                `room` bytes have room for it
--     isis_first                               the first bytes of a stream decide: as many as the longest table of
--                                              identities and the longest lists have, and one more
--     isis_any                                 so does any metric table of the right size
--     isis_again                               where the lists are accepted, the text, decoded and read by Read, gives
--                                              the metric table that isis::read has filled
use Rattle.std.specs.Prelude.{ℕ, ◌+◌, ◌*◌, ◌-◌, ◌≤◌, ◌<◌, min, ◌≡◌, ◌≢◌, eqb, length, take}
use Rattle.std.specs.Prelude.{drop}
use Rattle.std.proofs.Math.Path.{refl, ap₂}
use Rattle.std.proofs.Common.{sym, ap, ◌∙◌, subst, arith, length-drop, drop_of_length-le, take_all, get_or-take}
use Rattle.std.proofs.Common.{length-take-le}
use mathlib.Core.List.{List}
use Rattle.std.proofs.Math.Decide.{dec_lt, ℕ_discrete}
use borrow.Author.Tests.{lt-ltb, le-ltb, eq-eqb, ne_eqb}
use Rattle.std.proofs.Math.Seq.{take-nil}
use Rattle.area.specs.Bytes.{two}
use Rattle.area.specs.Limits.{width}
use Rattle.area.specs.Tests.{pick}
use Rattle.area.proofs.SizeLaws.{router_count_most}
use Rattle.text.specs.Text.{word, refused_line}
use Rattle.text.proofs.TextLaws.{refused_most}
use Rattle.isis.specs.Lists.{list_count}
use Rattle.isis.specs.Isis.{area_refusal, isis_metrics, listed}
use Rattle.isis.proofs.IsisLaws.{count_in, isis_area, metrics_accepted, metrics_refused}
use Rattle.isis.proofs.AreaLaws.{listed_size, listed_some, listed_self, listed_beyond}
use Rattle.bench_file.specs.Read.{read_refusal, metrics_of}
use Rattle.hexadecimal.specs.Hex.{unhexed}
use Rattle.area_file.specs.AreaFile.{area_text}
use Rattle.area_file.specs.AreaFile.{room}
use Rattle.area_file.proofs.AreaFileLaws.{text_room}
use Rattle.area_file.proofs.ReadAgainLaws.{Sound, text_again}
use Rattle.area_file.specs.FromIsis.{identities_of, lists_of, most_bytes, is_long, answer_of, table_of, text_of}
use Rattle.area_file.specs.FromIsis.{isis_text, isis_table}

-- ---- case by case
module _ (t d m : List ℕ) where
  pub text_long : most_bytes < length d → word "too long\n" ≡ text_of t d m
  unfolding text_of
  text_long h = rw (lt-ltb most_bytes (length d) h) refl

  module _ (h : length d ≤ most_bytes) where
    pub table_short : isis_metrics (list_count d) t d m ≡ table_of t d m
    table_short = rw (le-ltb most_bytes (length d) h) refl

    pub text_refused : answer_of t d m ≢ 0 → refused_line (answer_of t d m) ≡ text_of t d m
    unfolding text_of
    text_refused f = rw (le-ltb most_bytes (length d) h, ne_eqb (answer_of t d m) 0 f) refl

    pub text_accepted :
        answer_of t d m ≡ 0
        → area_text (list_count d) (isis_metrics (list_count d) t d m) ≡ text_of t d m
    unfolding text_of
    text_accepted z = rw (le-ltb most_bytes (length d) h, eq-eqb (answer_of t d m) 0 z) refl

-- ---- the parts of the stream, cut off where it ends
module _ (s : List ℕ) where
  pub split_identities :
      (a b : ℕ)
      → a ≡ min (length s) 2
      → b ≡ min (length s) (2 + two s 0)
      → take (b - a) (drop a s) ≡ identities_of s
  split_identities a b e f = by_length (dec_lt (length s) 2) (dec_lt (length s) (2 + two s 0))
    where
      by_length : Dec (length s < 2) → Dec (length s < 2 + two s 0) → take (b - a) (drop a s) ≡ identities_of s
      by_length (yes h) k =
          let none : length s ≤ a = omega arith in
          rw (drop_of_length-le s {i = a} none, drop_of_length-le s {i = 2} (omega arith))
          (take-nil (b - a) ∙ sym (take-nil (two s 0)))
      by_length (no h) (yes k) =
          let at : a ≡ 2 = omega arith in
          let size = length-drop 2 s in
          rw at (take_all (b - 2) (drop 2 s) (omega arith) ∙ sym (take_all (two s 0) (drop 2 s) (omega arith)))
      by_length (no h) (no k) =
          let at : a ≡ 2 = omega arith in
          let long : b - a ≡ two s 0 = omega arith in
          ap₂ (λ (x y : ℕ). take x (drop y s)) long at

  pub split_lists :
      (b : ℕ)
      → b ≡ min (length s) (2 + two s 0)
      → take (length s - b) (drop b s) ≡ lists_of s
  split_lists b f =
      let size = length-drop b s in
      take_all (length s - b) (drop b s) (omega arith) ∙ by_length (dec_lt (length s) (2 + two s 0))
    where
      by_length : Dec (length s < 2 + two s 0) → drop b s ≡ lists_of s
      by_length (yes h) =
          drop_of_length-le s {i = b} (omega arith) ∙ sym (drop_of_length-le s {i = 2 + two s 0} (omega arith))
      by_length (no h) = let at : b ≡ 2 + two s 0 = omega arith in ap (λ (k : ℕ). drop k s) at

-- what is appended for the parts is what is appended for the stream; x is the length that code has read
module _
    (s m : List ℕ) (a b x : ℕ)
    (start : a ≡ min (length s) 2)
    (read : x ≡ two s 0)
    (end : b ≡ min (length s) (2 + x))
  where
    behind : b ≡ min (length s) (2 + two s 0)
    behind = end ∙ ap (λ (k : ℕ). min (length s) (2 + k)) read

    pub parts :
        (P : List ℕ → List ℕ → Type 0)
        → P (take (b - a) (drop a s)) (take (length s - b) (drop b s))
        → P (identities_of s) (lists_of s)
    parts P y =
        subst (λ (t : List ℕ). P t (lists_of s)) (split_identities s a b start behind)
        (subst (λ (d : List ℕ). P (take (b - a) (drop a s)) d) (split_lists s b behind) y)

    pub isis_is : text_of (take (b - a) (drop a s)) (take (length s - b) (drop b s)) m ≡ isis_text s m
    unfolding isis_text
    isis_is = ap₂ (λ (t d : List ℕ). text_of t d m) (split_identities s a b start behind) (split_lists s b behind)

    pub isis_table_lem : table_of (take (b - a) (drop a s)) (take (length s - b) (drop b s)) m ≡ isis_table s m
    unfolding isis_table
    isis_table_lem =
        ap₂ (λ (t d : List ℕ). table_of t d m) (split_identities s a b start behind) (split_lists s b behind)

-- ---- how long the text is
text_most : (t d m : List ℕ) → length (text_of t d m) ≤ room
text_most t d m = by_tests (dec_lt most_bytes (length d)) (ℕ_discrete (answer_of t d m) 0)
  where
    by_tests : Dec (most_bytes < length d) → Dec (answer_of t d m ≡ 0) → length (text_of t d m) ≤ room
    by_tests (yes h) a = subst (λ (w : List ℕ). length w ≤ room) (text_long t d m h) (omega arith)
    by_tests (no h) (yes z) =
        subst (λ (w : List ℕ). length w ≤ room) (text_accepted t d m (omega arith) z) (text_room _ _)
    by_tests (no h) (no f) =
        subst (λ (w : List ℕ). length w ≤ room) (text_refused t d m (omega arith) f)
        (omega (arith, refused_most (answer_of t d m)))

pub isis_room : (s m : List ℕ) → length (isis_text s m) ≤ room
unfolding isis_text
isis_room s m = text_most (identities_of s) (lists_of s) m

-- ---- the first bytes: where more follow, the lists are too long with them and without
pub isis_first :
    (s m : List ℕ) (k : ℕ)
    → 2 + 65535 + most_bytes < k
    → two s 0 < 65536
    → isis_text (take k s) m ≡ isis_text s m
unfolding isis_text
isis_first s m k more small = by_length (dec_lt k (length s))
  where
    by_length :
        Dec (k < length s)
        → text_of (identities_of (take k s)) (lists_of (take k s)) m ≡ text_of (identities_of s) (lists_of s) m
    by_length (no h) = ap (λ (l : List ℕ). text_of (identities_of l) (lists_of l) m) (take_all k s (omega arith))
    by_length (yes h) =
        let same : two (take k s) 0 ≡ two s 0
        = ap₂ (λ (x y : ℕ). 256 * x + y) (get_or-take k s 0 0 (omega arith)) (get_or-take k s 1 0 (omega arith)) in
        let size = length-take-le k s (omega arith) in
        let whole = length-drop (2 + two s 0) s in
        let cut = length-drop (2 + two (take k s) 0) (take k s) in
        sym (text_long (identities_of (take k s)) (lists_of (take k s)) m (omega arith))
        ∙ text_long (identities_of s) (lists_of s) m (omega arith)

-- ---- the metric table that is lent
module _ (t d m : List ℕ) (a : length m ≡ width * width) where
  pub answer_any : answer_of t d m ≡ area_refusal (list_count d) t d
  answer_any = sym (isis_area (list_count d) t d m a)

  metrics_any :
      (p : List ℕ)
      → length p ≡ width * width
      → isis_metrics (list_count d) t d m ≡ isis_metrics (list_count d) t d p
  metrics_any p b = elim (ℕ_discrete (area_refusal (list_count d) t d) 0) [
    | yes z ↦ sym (metrics_accepted (list_count d) t d m a z) ∙ metrics_accepted (list_count d) t d p b z
    | no f ↦ sym (metrics_refused (list_count d) t d m a f) ∙ metrics_refused (list_count d) t d p b f
  ]

  text_any : (p : List ℕ) → length p ≡ width * width → text_of t d m ≡ text_of t d p
  unfolding text_of
  text_any p b =
      ap₂
      (λ (k : ℕ) (w : List ℕ).
      pick (is_long d) (word "too long\n") (pick (eqb k 0) (area_text (list_count d) w) (refused_line k)))
      (answer_any ∙ isis_area (list_count d) t d p b)
      (metrics_any p b)

pub isis_any :
    (s m p : List ℕ)
    → length m ≡ width * width
    → length p ≡ width * width
    → isis_text s m ≡ isis_text s p
unfolding isis_text
isis_any s m p a b = text_any (identities_of s) (lists_of s) m a p b

-- ---- accepted lists
-- their table is one that Read may have filled
module _ (n : ℕ) (t d : List ℕ) (z : area_refusal n t d ≡ 0) where
  pub listed_sound : Sound n (listed n t d)
  listed_sound = record {
    routers_in = count_in n t d z;
    size = listed_size n t d z;
    between = λ i j a b f. listed_some n t d z i j (below a) (below b);
    own = λ i a. listed_self n t d z i (below a);
    beyond = λ i j a b. listed_beyond n t d z i j a b;
  }
    where
      below : {i : ℕ} → i < n → i < width
      below a = omega (arith, router_count_most n (count_in n t d z))

-- so the text, decoded and read, gives it back
pub isis_again :
    (s m : List ℕ)
    → length m ≡ width * width
    → length (lists_of s) ≤ most_bytes
    → answer_of (identities_of s) (lists_of s) m ≡ 0
    → (p : List ℕ)
    → length p ≡ width * width
    → (read_refusal (unhexed (isis_text s m)) p ≡ 0)
    × (metrics_of (unhexed (isis_text s m)) p ≡ isis_table s m)
unfolding isis_text isis_table
isis_again s m a h z p b =
    let t = identities_of s in
    let d = lists_of s in
    let none = sym (answer_any t d m a) ∙ z in
    let filled = metrics_accepted (list_count d) t d m a none in
    let text = ap (area_text (list_count d)) filled ∙ text_accepted t d m h z in
    let again = text_again (list_count d) (listed (list_count d) t d) (listed_sound (list_count d) t d none) p b in
    rw (← text) (again.0, again.1 ∙ filled ∙ table_short t d m h)
