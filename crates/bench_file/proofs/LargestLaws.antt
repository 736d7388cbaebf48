-- The largest bench file (01, "The bench file") has `largest` bytes. No file that Read accepts has more: `file_largest`
-- of FileLaws.antt. Here is one that has as many: `width` routers, a link of each ordered pair at the metric 1, and as
-- many changes and steps as may be. What the changes and the steps hold is left to Plan and Step, and is 0 here.
--     largest_is           how many these are
--     largest_file          the file
--     largest_bytes, largest_size                      it is a list of bytes, `largest` of them
--     has_routers, has_links, has_changes, has_steps   its counts
--     largest_read         Read accepts it
-- Router i has the links from others * i on, to all others in their order. So the two ends of a link say which one it
-- is, and no pair is listed twice.
use Rattle.std.specs.Prelude.{ℕ, ◌+◌, ◌-◌, ◌*◌, ◌/◌, ◌%◌, ◌≤◌, ◌<◌, ◌≡◌, Bool, true, false, ◌≢◌, ◌⊎◌, List, ltb, eqb}
use Rattle.std.specs.Prelude.{length, get_or}
use Rattle.std.proofs.Math.Path.{refl}
use Rattle.std.proofs.Common.{sym, ap, ap₂, ◌∙◌, inl, inr, ⊎_elim, arith, length-drop, get_or-drop, lt-ltb, le-ltb}
use Rattle.std.proofs.Common.{ne_eqb, ltb-true}
use Rattle.std.proofs.Math.Decide.{dec_lt}
use Rattle.std.proofs.Math.ListN.{get_or-eq_default}
use Rattle.area.specs.Bytes.{two}
use Rattle.area.specs.Limits.{width, unused, most_changes, most_steps}
use Rattle.area.specs.Tests.{pick}
use Rattle.area.proofs.TestLaws.{look}
use Rattle.area.proofs.SizeLaws.{router_count_true}
use Rattle.area.specs.Tables.{build}
use Rattle.area.proofs.TableLaws.{length_build, build_at}
use Rattle.entries.specs.Entries.{entry_count, entry_of, from, to, metric, is_for_pair}
use Rattle.entries.proofs.EntryLaws.{entry_count_least, entry_bytes, of_pair, free_true}
use Rattle.bench_file.specs.Sections.{routers, link_count, links}
use Rattle.bench_file.specs.Sections.{change_count, step_count_at, step_count, largest}
use Rattle.bench_file.specs.declared.Format.TheVariants.{New}
use Rattle.bench_file.proofs.FaultLaws.{most_links_is, live_passes, Link, Accepted, of_accepted}
use Rattle.bench_file.specs.Read.{read_refusal}
use Rattle.bench_file.proofs.ReadLaws.{read_file}

-- ---- the sizes
-- each router has a link to so many
abbrev others : ℕ
others = width - 1

-- so many links in all
abbrev pairs : ℕ
pairs = width * others

-- the places of the count of changes and of the count of steps
abbrev changes_counted : ℕ
changes_counted = 3 + 5 * pairs

abbrev steps_counted : ℕ
steps_counted = changes_counted + 1 + 5 * most_changes + 4

-- ---- the file
-- the router that link e goes to; it comes from router e / others
unfoldable pub to_of : (e : ℕ) → ℕ
to_of e = pick (ltb (e % others) (e / others)) (e % others) (e % others + 1)

-- its five bytes
unfoldable pub link_byte : (e part : ℕ) → ℕ
link_byte e part = pick (eqb part 0) (e / others) (pick (eqb part 1) (to_of e) (pick (eqb part 4) 1 0))

-- The byte at place k: n, the count of links in two bytes, the links, the count of changes, that of steps in two bytes.
-- All others are 0: the changes, the times and the steps.
unfoldable pub byte_at : (k : ℕ) → ℕ
byte_at k =
    pick (eqb k 0) width
    (pick (eqb k 1) (pairs / 256)
    (pick (eqb k 2) (pairs % 256)
    (pick (ltb k changes_counted) (link_byte ((k - 3) / 5) ((k - 3) % 5))
    (pick (eqb k changes_counted) most_changes
    (pick (eqb k steps_counted) (most_steps / 256)
    (pick (eqb k (steps_counted + 1)) (most_steps % 256)
    0))))))

unfoldable pub largest_file : List ℕ
largest_file = build largest byte_at

-- 02, No. 10
pub largest_is : largest ≡ 33088
largest_is = refl

pub largest_size : length largest_file ≡ largest
unfolding largest_file
largest_size = length_build largest byte_at

at : (k : ℕ) → k < largest → get_or largest_file k 0 ≡ byte_at k
unfolding largest_file
at = build_at largest byte_at

-- ---- where a link goes
abbrev ToCases : (e : ℕ) → Type 0
ToCases e =
    ((e % others < e / others) × (to_of e ≡ e % others))
    ⊎ ((e / others ≤ e % others) × (to_of e ≡ e % others + 1))

to_cases : (e : ℕ) → ToCases e
unfolding to_of
to_cases e = elim (dec_lt (e % others) (e / others)) [
  | yes h ↦ inl (h, rw (lt-ltb (e % others) (e / others) h) refl)
  | no f ↦ inr (omega arith, rw (le-ltb (e % others) (e / others) (omega arith)) refl)
]

to_below : (e : ℕ) → e < pairs → to_of e < width
to_below e h = ⊎_elim (λ c. omega (arith, c.0, c.1)) (λ c. omega (arith, c.1)) (to_cases e)

to_other : (e : ℕ) → e / others ≢ to_of e
to_other e q = ⊎_elim (λ c. omega (arith, c.0, c.1)) (λ c. omega (arith, c.0, c.1)) (to_cases e)

-- the two ends say which link it is
same_link : (d e : ℕ) → d / others ≡ e / others → to_of d ≡ to_of e → d ≡ e
same_link d e a b = by_cases (to_cases d) (to_cases e)
  where
    by_cases : ToCases d → ToCases e → d ≡ e
    by_cases (inl x) (inl y) = omega (arith, x.1, y.1)
    by_cases (inl x) (inr y) = absurd (omega (arith, x.0, x.1, y.0, y.1))
    by_cases (inr x) (inl y) = absurd (omega (arith, x.0, x.1, y.0, y.1))
    by_cases (inr x) (inr y) = omega (arith, x.1, y.1)

-- ---- every number of the list is a byte
pick_below : (t : Bool) (a b : ℕ) → (t ≡ true → a < 256) → b < 256 → pick t a b < 256
pick_below true a b f g = f refl
pick_below false a b f g = g

link_byte_below : (e part : ℕ) → e < pairs → link_byte e part < 256
unfolding link_byte
link_byte_below e part h =
    pick_below (eqb part 0) (e / others) _ (λ t. omega arith)
    (pick_below (eqb part 1) (to_of e) _ (λ t. omega (arith, to_below e h))
    (pick_below (eqb part 4) 1 0 (λ t. omega arith) (omega arith)))

byte_below : (k : ℕ) → byte_at k < 256
unfolding byte_at
byte_below k =
    pick_below (eqb k 0) width _ (λ t. omega arith)
    (pick_below (eqb k 1) (pairs / 256) _ (λ t. omega arith)
    (pick_below (eqb k 2) (pairs % 256) _ (λ t. omega arith)
    (pick_below (ltb k changes_counted) (link_byte ((k - 3) / 5) ((k - 3) % 5)) _
    (λ t. let h = ltb-true k changes_counted t in link_byte_below ((k - 3) / 5) ((k - 3) % 5) (omega arith))
    (pick_below (eqb k changes_counted) most_changes _ (λ t. omega arith)
    (pick_below (eqb k steps_counted) (most_steps / 256) _ (λ t. omega arith)
    (pick_below (eqb k (steps_counted + 1)) (most_steps % 256) 0 (λ t. omega arith) (omega arith)))))))

pub largest_bytes : (k : ℕ) → get_or largest_file k 0 < 256
largest_bytes k = elim (dec_lt k largest) [
  | yes h ↦ rw (at k h) (byte_below k)
  | no f ↦ rw (get_or-eq_default largest_file 0 {n = k} (omega (arith, largest_size))) (omega arith)
]

-- ---- the counts
pub has_routers : routers largest_file ≡ width
unfolding byte_at
has_routers = at 0 (omega arith)

pub has_links : link_count largest_file ≡ pairs
unfolding byte_at
has_links = omega (arith, at 1 (omega arith), at 2 (omega arith))

pub has_changes : change_count largest_file ≡ most_changes
unfolding byte_at
has_changes = ap (λ (k : ℕ). get_or largest_file (3 + 5 * k) 0) has_links ∙ at changes_counted (omega arith)

pub has_steps : step_count New largest_file ≡ most_steps
unfolding byte_at
has_steps =
    ap (two largest_file)
    (let x : step_count_at New largest_file ≡ steps_counted = omega (arith, has_links, has_changes) in x)
    ∙ omega (arith, at steps_counted (omega arith), at (steps_counted + 1) (omega arith))

-- ---- the links
byte_of_link : (k e part : ℕ) → k ≡ 3 + (5 * e + part) → e < pairs → part < 5 → byte_at k ≡ link_byte e part
unfolding byte_at
byte_of_link k e part q h p =
    rw (ne_eqb k 0 (λ z. omega arith), ne_eqb k 1 (λ z. omega arith), ne_eqb k 2 (λ z. omega arith))
    (rw (lt-ltb k changes_counted (omega arith)) (ap₂ link_byte (omega arith) (omega arith)))

module _ (e : ℕ) (h : e < pairs) where
  part_is : (i part : ℕ) → i ≡ 5 * e + part → part < 5 → get_or (links largest_file) i 0 ≡ link_byte e part
  part_is i part q p =
      get_or-drop 3 largest_file i 0
      ∙ at (3 + i) (omega arith)
      ∙ byte_of_link (3 + i) e part (omega arith) h p

  whole : e < entry_count (links largest_file)
  whole =
      let room = length-drop 3 largest_file in
      omega (arith, entry_count_least (links largest_file) pairs (omega (arith, largest_size)))

  from_is : from (links largest_file) e ≡ e / others
  unfolding link_byte
  from_is = (entry_bytes (links largest_file) e whole).0 ∙ part_is (5 * e) 0 (omega arith) (omega arith)

  to_is : to (links largest_file) e ≡ to_of e
  unfolding link_byte
  to_is = (entry_bytes (links largest_file) e whole).1 ∙ part_is (5 * e + 1) 1 refl (omega arith)

  metric_is : metric (links largest_file) e ≡ 1
  unfolding link_byte
  metric_is =
      let high = part_is (5 * e + 2) 2 refl (omega arith) in
      let middle = part_is (5 * e + 3) 3 refl (omega arith) in
      let low = part_is (5 * e + 4) 4 refl (omega arith) in
      (entry_bytes (links largest_file) e whole).2 ∙ omega (arith, high, middle, low)

other_pair : (d e : ℕ) → d < e → e < pairs
    → is_for_pair (links largest_file) d (from (links largest_file) e) (to (links largest_file) e) ≡ false
other_pair d e b h =
    let l = links largest_file in
    let d-in : d < pairs = omega arith in
    ⊎_elim
    (λ t.
    let p = of_pair l d (from l e) (to l e) t in
    let same = same_link d e
    (sym (from_is d d-in) ∙ p.0 ∙ from_is e h)
    (sym (to_is d d-in) ∙ p.1 ∙ to_is e h) in
    absurd (omega (arith, same)))
    (λ f. f)
    (look (is_for_pair l d (from l e) (to l e)))

link_is : (e : ℕ) → e < pairs → Link New (routers largest_file) (links largest_file) e
link_is e h =
    let l = links largest_file in
    record {
      whole = whole e h;
      entry = record {
        from_in = omega (arith, from_is e h, has_routers);
        to_in = omega (arith, to_is e h, to_below e h, has_routers);
        apart = λ q. to_other e (sym (from_is e h) ∙ q ∙ to_is e h);
        some = λ z. omega (arith, metric_is e h);
      };
      taken = live_passes New (entry_of l e) (ne_eqb (metric l e) unused (λ q. omega (arith, metric_is e h)));
      new = free_true l e (from l e) (to l e) (λ d b. other_pair d e b h);
    }

-- ---- Read
pub largest_accepted : Accepted New largest_file
largest_accepted = record {
  routers_in = router_count_true (routers largest_file) (omega (arith, has_routers)) (omega (arith, has_routers));
  most_links_lem =
      let most = most_links_is (routers largest_file) ∙ ap (λ (n : ℕ). n * (n - 1)) has_routers in
      omega (arith, has_links, most);
  each_link = λ e h. link_is e (omega (arith, has_links));
  most_changes_lem = omega (arith, has_changes);
  most_steps_lem = omega (arith, has_steps);
  size = omega (arith, largest_size, has_links, has_changes, has_steps);
}

-- with any table of the right size
pub largest_read : (t : List ℕ) → length t ≡ width * width → read_refusal largest_file t ≡ 0
largest_read t a = read_file largest_file t a ∙ of_accepted New largest_file largest_accepted
