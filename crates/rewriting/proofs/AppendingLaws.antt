-- Laws of a rewritten file whose parts are appended one by one.
--     appended_start, appended_live    the live links: those of no link, and those of one link more
--     appended_rest                    what follows the links
--     appended_file                    the whole file
use Rattle.std.specs.Prelude.{ℕ, ◌+◌, ◌-◌, ◌*◌, ◌≤◌, ◌≡◌, List, ◌∷◌, ◌++◌, length, take, drop}
use Rattle.std.proofs.Math.Path.{ap, ap₂, subst}
use Rattle.std.proofs.Common.{◌∙◌, add-one, append_assoc, arith}
use Rattle.bench_file.specs.Sections.{routers, link_count, links, change_count_at, change_count, changes, times_at}
use Rattle.text.specs.Text.{Appended}
use Rattle.text.proofs.TextLaws.{appended_none, appended_then}
use Rattle.rewriting.specs.Live.{kept_of, live, live_count}
use Rattle.rewriting.specs.Rewriting.{kept_count, head, times, timed_rest, rewritten}
use Rattle.rewriting.proofs.RewritingLaws.{part_counted, lent_is}

pub appended_live :
    (l : List ℕ) (k : ℕ) {o p q : List ℕ} {a b c : ℕ}
    → Appended o a (live l k) p b
    → Appended p b (kept_of l k) q c
    → Appended o a (live l (k + 1)) q c
unfolding live
appended_live l k x y = rw add-one (appended_then x y)

pub appended_start : (l o : List ℕ) (a : ℕ) → a ≤ length o → Appended o a (live l 0) o a
unfolding live
appended_start l o a h = appended_none o a h

-- ---- of a file f
module _ (f : List ℕ) where
  -- the bytes from place k on, as they are lent
  abbrev lent : (k : ℕ) → List ℕ
  lent k = take (length f - k) (drop k f)

  -- the changes, the times and the rest, one after another
  pub appended_rest :
      (i j : ℕ)
      → i ≡ change_count_at f
      → j ≡ times_at f
      → times_at f ≤ length f
      → {o p q s : List ℕ} {at a b r : ℕ}
      → Appended o at (take (j - i) (drop i f)) p a
      → Appended p a times q b
      → Appended q b (lent j) s r
      → Appended o at (timed_rest f) s r
  appended_rest i j from to long {o} {s = s} {at} {r = r} x y z =
      subst (λ (l : List ℕ). Appended o at l s r) parts (appended_then (appended_then x y) z)
    where
      changes_is : take (j - i) (drop i f) ≡ change_count f ∷ changes f
      changes_is =
          ap₂ (λ (i j : ℕ). take (j - i) (drop i f)) from to
          ∙ ap (λ (k : ℕ). take k (drop (change_count_at f) f))
          (let x : times_at f - change_count_at f ≡ 1 + 5 * change_count f = omega arith in x)
          ∙ part_counted f (omega arith)

      rest_is : lent j ≡ drop (times_at f) f
      rest_is = lent_is f j ∙ ap (λ (k : ℕ). drop k f) to

      parts : (take (j - i) (drop i f) ++ times) ++ lent j ≡ timed_rest f
      parts =
          append_assoc (take (j - i) (drop i f)) times (lent j)
          ∙ ap₂ (λ (c r : List ℕ). c ++ (times ++ r)) changes_is rest_is

  -- n and the count, the links and what follows them, one after another
  pub appended_file :
      (n k c : ℕ)
      → n ≡ routers f
      → k ≡ link_count f
      → c ≡ live_count (lent 3) k
      → {o p q s : List ℕ} {a b r : ℕ}
      → Appended o 0 (head n c) p a
      → Appended p a (live (lent 3) k) q b
      → Appended q b (timed_rest f) s r
      → Appended o 0 (rewritten f) s r
  unfolding rewritten
  appended_file n k c en ek ec {o} {p} {q} {s} {a} {b} {r} x y z =
      subst (λ (w : List ℕ). Appended o 0 w s r) whole_text_lem (appended_then (appended_then x y) z)
    where
      count_is : c ≡ kept_count f
      count_is = ec ∙ ap₂ live_count (lent_is f 3) ek

      head_is : head n c ≡ head (routers f) (kept_count f)
      head_is = ap₂ head en count_is

      links_is : live (lent 3) k ≡ live (links f) (link_count f)
      links_is = ap₂ live (lent_is f 3) ek

      whole_text_lem : (head n c ++ live (lent 3) k) ++ timed_rest f ≡ rewritten f
      whole_text_lem =
          append_assoc (head n c) (live (lent 3) k) (timed_rest f)
          ∙ ap₂ (λ (h l : List ℕ). h ++ (l ++ timed_rest f)) head_is links_is
