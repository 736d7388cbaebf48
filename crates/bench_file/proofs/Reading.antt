-- What Read hands on of a file that is accepted, and the laws by which its code is proved.
--     lent, lent_is                the bytes from the first link on, as they are lent
--     long, lent_whole, lent_inside    they are there, and the links have their ends among the routers
--     counting, reading            the laws of the router count, and of `read`
use Rattle.std.specs.Prelude.{ℕ, ◌-◌, ◌≤◌, ◌<◌, ◌≡◌, List, length, take, drop}
use Rattle.std.proofs.Common.{arith, take_all, length-drop}
use Rattle.area.specs.Limits.{width}
use Rattle.area.proofs.SizeLaws.{router_count_true, router_count_low, router_count_high}
use Rattle.area.proofs.SizeLaws.{router_count_most}
use Rattle.entries.specs.Entries.{entry_count, from, to}
use Rattle.entries.proofs.EntryLaws.{entry_count_least}
use Rattle.bench_file.specs.Sections.{routers, link_count, links}
use Rattle.bench_file.specs.declared.Format.TheVariants.{New}
use Rattle.bench_file.specs.Faults.{file_refusal}
use Rattle.bench_file.proofs.FaultLaws.{Accepted, accepted_of}
use Rattle.bench_file.proofs.ReadLaws.{read_size, read_file, contents_accepted, by_accepted}
use Rattle.bench_file.proofs.ReadLaws.{metrics_kept, metrics_refused, metrics_accepted, linked_clear}
use Rattle.bench_file.proofs.FileLaws.{contents_links}

abbrev pub lent : (f : List ℕ) → List ℕ
lent f = take (length f - 3) (drop 3 f)

pub lent_is : (f : List ℕ) → lent f ≡ links f
lent_is f =
    let size : length (drop 3 f) ≤ length f - 3 = omega (arith, length-drop 3 f) in
    take_all (length f - 3) (drop 3 f) size

module _ (f : List ℕ) (z : file_refusal New f ≡ 0) where
  whole : Accepted New f
  whole = accepted_of New f z

  pub long : 3 ≤ length f
  long = omega (arith, whole.size)

  pub lent_whole : link_count f ≤ entry_count (lent f)
  lent_whole = rw lent_is (entry_count_least (links f) (link_count f) (omega (arith, whole.size, length-drop 3 f)))

  pub lent_inside : (e : ℕ) → e < link_count f → (from (lent f) e < width) × (to (lent f) e < width)
  lent_inside e b =
      let most = router_count_most (routers f) whole.routers_in in
      let link = (whole.each_link e b).entry in
      rw lent_is (omega (arith, link.from_in), omega (arith, link.to_in))

pub ruleset counting = (router_count_true, router_count_low, router_count_high)

pub ruleset reading = (
  read_size,
  read_file,
  contents_accepted,
  by_accepted,
  contents_links,
  metrics_kept,
  metrics_refused,
  metrics_accepted,
  linked_clear,
  lent_is,
  long,
  lent_whole,
  lent_inside,
)
