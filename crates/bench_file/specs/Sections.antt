-- The sections of a bench file (01, "The bench file"; 02, No. 10). f is the file, a list of bytes; a byte that is not
-- there is 0. The old format is without the times.
--
--     n  link count  links ..  change count  changes ..  hold time  step time  step count  steps ..
--     1      2        5 each        1          5 each        2          2          2        3 each     bytes
use Rattle.std.specs.Prelude.{ℕ, ◌+◌, ◌-◌, ◌*◌, List, get_or, take, drop}
use Rattle.area.specs.Bytes.{two}
use Rattle.area.specs.Limits.{width, most_changes, most_steps}
use Rattle.bench_file.specs.declared.Format.{Format}
use Rattle.bench_file.specs.Formats.{times_size, time_at}

-- the number of routers, in the first byte
abbrev pub routers : (f : List ℕ) → ℕ
routers f = get_or f 0 0

-- how many links follow, in the next two
abbrev pub link_count : (f : List ℕ) → ℕ
link_count f = two f 1

-- the bytes from the first link on: five for each link
abbrev pub links : (f : List ℕ) → List ℕ
links f = drop 3 f

-- After the links comes the count of the changes, and then the changes, five bytes for each.
abbrev pub change_count_at : (f : List ℕ) → ℕ
change_count_at f = 3 + 5 * link_count f

abbrev pub change_count : (f : List ℕ) → ℕ
change_count f = get_or f (change_count_at f) 0

abbrev pub changes_at : (f : List ℕ) → ℕ
changes_at f = change_count_at f + 1

abbrev pub changes : (f : List ℕ) → List ℕ
changes f = take (5 * change_count f) (drop (changes_at f) f)

-- After the changes come the hold time and the step time, where the format has them.
abbrev pub times_at : (f : List ℕ) → ℕ
times_at f = changes_at f + 5 * change_count f

abbrev pub hold_time : (format : Format) (f : List ℕ) → ℕ
hold_time format f = time_at format f (times_at f)

abbrev pub step_time : (format : Format) (f : List ℕ) → ℕ
step_time format f = time_at format f (times_at f + 2)

-- Then comes the count of the steps, and then the steps, three bytes for each.
abbrev pub step_count_at : (format : Format) (f : List ℕ) → ℕ
step_count_at format f = times_at f + times_size format

abbrev pub step_count : (format : Format) (f : List ℕ) → ℕ
step_count format f = two f (step_count_at format f)

abbrev pub steps_at : (format : Format) (f : List ℕ) → ℕ
steps_at format f = step_count_at format f + 2

abbrev pub steps : (format : Format) (f : List ℕ) → List ℕ
steps format f = take (3 * step_count format f) (drop (steps_at format f) f)

-- where the last step ends, and with it the file
abbrev pub end : (format : Format) (f : List ℕ) → ℕ
end format f = steps_at format f + 3 * step_count format f

-- The most bytes that a file has which Read accepts (01, "The bench file"; 02, No. 10), 33,088: n, the three counts and
-- the two times take 10, and then come as many links, changes and steps as may be.
abbrev pub largest : ℕ
largest = 10 + 5 * (width * (width - 1)) + 5 * most_changes + 3 * most_steps
