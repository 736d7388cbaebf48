-- The faults of a bench file f (01, "The bench file"), in either format (02, No. 5): the first in the order of its
-- bytes is its refusal.
use Rattle.std.specs.Prelude.{ℕ, ◌-◌, ◌*◌, Bool, not, ◌&&◌, List, ltb, eqb, length, get_or}
use Rattle.area.specs.Limits.{unused, most_changes, most_steps}
use Rattle.area.specs.Refusals.{incomplete, trailing, router_count, repeated, too_many, dead_link}
use Rattle.area.specs.Tests.{pick, or_then, first}
use Rattle.area.specs.Sizes.{is_router_count}
use Rattle.sets.specs.Sets.{bit}
use Rattle.entries.specs.declared.Entry.{Entry}
use Rattle.entries.specs.Entries.{entry_count, entry_of, is_first, entry_refusal}
use Rattle.bench_file.specs.declared.Format.{Format}
use Rattle.bench_file.specs.Formats.{takes_dead}
use Rattle.bench_file.specs.Sections.{routers, link_count, links}
use Rattle.bench_file.specs.Sections.{change_count, changes_at, step_count, steps_at, end}

-- as many links as n routers have ordered pairs
unfoldable pub most_links : (n : ℕ) → ℕ
most_links n = n * (n - 1)

-- a link is dead where its metric is that of a link that is not used
abbrev pub is_dead : (x : Entry) → Bool
is_dead x = eqb x.metric unused

-- a dead link is refused, but for the format that takes it
unfoldable pub dead_refusal : (format : Format) (x : Entry) → ℕ
dead_refusal format x = pick (is_dead x && not (takes_dead format)) dead_link 0

-- Link e of the bytes l, which begin with the first link: its five bytes are all there, and then the first of 4, 5, 6,
-- 30 and 7 that applies. A dead entry of the changes stays legal: Plan judges them without 30.
unfoldable pub link_refusal : (format : Format) (n : ℕ) (l : List ℕ) (e : ℕ) → ℕ
link_refusal format n l e =
    pick (ltb e (entry_count l))
    (or_then (entry_refusal n (entry_of l e))
    (or_then (dead_refusal format (entry_of l e))
    (pick (is_first l e) 0 repeated)))
    incomplete

-- The links that the count announces: the first faulty one decides.
abbrev pub links_refusal : (format : Format) (f : List ℕ) → ℕ
links_refusal format f = first (link_count f) (link_refusal format (routers f) (links f))

-- What follows the links: each count is there, and is tested before what it counts; nothing follows the last step.
unfoldable pub rest_refusal : (format : Format) (f : List ℕ) → ℕ
rest_refusal format f =
    pick (ltb (length f) (changes_at f)) incomplete
    (pick (ltb most_changes (change_count f)) too_many
    (pick (ltb (length f) (steps_at format f)) incomplete
    (pick (ltb most_steps (step_count format f)) too_many
    (pick (ltb (length f) (end format f)) incomplete
    (pick (ltb (end format f) (length f)) trailing
    0)))))

-- The file: n, the link count, each link, and what follows them; 0 where it has no fault.
unfoldable pub file_refusal : (format : Format) (f : List ℕ) → ℕ
file_refusal format f =
    pick (ltb (length f) 1) incomplete
    (pick (not (is_router_count (routers f))) router_count
    (pick (ltb (length f) 3) incomplete
    (pick (ltb (most_links (routers f)) (link_count f)) too_many
    (or_then (links_refusal format f)
    (rest_refusal format f)))))

-- ---- what the code computes for a link
-- The refusal of the entry x, where set i of `seen` holds every j of an earlier link from i to j.
abbrev pub seen_refusal : (format : Format) (n : ℕ) (x : Entry) (seen : List ℕ) → ℕ
seen_refusal format n x seen =
    or_then (entry_refusal n x)
    (or_then (dead_refusal format x)
    (pick (bit (get_or seen x.from 0) x.to) repeated 0))
