-- The two formats of a bench file (02, No. 5 and No. 10): that of stored files, which the old reader takes, and that of
-- Read. `Format` is the enum of src/lib.rt. Each difference between the two is a definition by cases here.
use Rattle.std.specs.Prelude.{ℕ, Bool, true, false, List}
use Rattle.area.specs.Bytes.{two}
use Rattle.bench_file.specs.declared.Format.{Format}
use Rattle.bench_file.specs.declared.Format.TheVariants.{Old, New}

-- may a link be listed that is not used?
abbrev pub takes_dead : (format : Format) → Bool
takes_dead Old = true
takes_dead New = false

-- how many bytes the hold time and the step time take
abbrev pub times_size : (format : Format) → ℕ
times_size Old = 0
times_size New = 4

-- a time of the file f, which begins at place i; 0 where the format has none
abbrev pub time_at : (format : Format) (f : List ℕ) (i : ℕ) → ℕ
time_at Old f i = 0
time_at New f i = two f i
