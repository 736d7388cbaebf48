-- What is written for a stored file f (02, No. 5 and No. 10).
use Rattle.std.specs.Prelude.{ℕ, ◌*◌, ◌/◌, ◌%◌, ◌≤◌, ◌≡◌, List, [], ◌∷◌, ◌++◌, eqb, length, drop}
use Rattle.area.specs.Limits.{width}
use Rattle.area.specs.Tests.{pick}
use Rattle.bench_file.specs.declared.Format.TheVariants.{Old}
use Rattle.bench_file.specs.Sections.{routers, link_count, links, change_count, changes, times_at, end}
use Rattle.bench_file.specs.Faults.{file_refusal}
use Rattle.text.specs.Text.{refused_line}
use Rattle.rewriting.specs.Live.{live, live_count}

-- how many links are kept
abbrev pub kept_count : (f : List ℕ) → ℕ
kept_count f = live_count (links f) (link_count f)

-- n, and the count of the links in two bytes, high byte first
abbrev pub head : (n count : ℕ) → List ℕ
head n count = n ∷ (count / 256 ∷ (count % 256 ∷ []))

-- the times that are put in: hold time 0 and step time 1, in two bytes each
abbrev pub times : List ℕ
times = 0 ∷ (0 ∷ (0 ∷ (1 ∷ [])))

-- what follows the links: the changes with their count as they are in f, the times, and all that follows the changes
-- in f
abbrev pub timed_rest : (f : List ℕ) → List ℕ
timed_rest f = (change_count f ∷ changes f) ++ (times ++ drop (times_at f) f)

-- f without its dead links, and with the times: n and the count of the links that are kept, these, and the rest
unfoldable pub rewritten : (f : List ℕ) → List ℕ
rewritten f = head (routers f) (kept_count f) ++ (live (links f) (link_count f) ++ timed_rest f)

-- what the program writes: where the old reader refuses f, its refusal alone
unfoldable pub written : (f : List ℕ) → List ℕ
written f = pick (eqb (file_refusal Old f) 0) (rewritten f) (refused_line (file_refusal Old f))

-- ---- what the code has read of an accepted file: n, the link count, and where the changes end
pub record Counted (f : List ℕ) (n count at : ℕ) : Type 0 where
  pub size : length f ≡ end Old f
  pub routers_is : n ≡ routers f
  pub routers_most : n ≤ width
  pub count_is : count ≡ link_count f
  pub count_most : count ≤ width * width
  pub at_is : at ≡ times_at f
