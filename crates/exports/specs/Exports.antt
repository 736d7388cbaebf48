-- How what a file says of itself goes over to programs in other languages: as a list of numbers.
use Rattle.std.specs.Prelude.{ℕ, List, [], ◌∷◌}
use Rattle.bench_file.specs.declared.Contents.{Contents}

-- what a file says of itself: n, links, changes and where they begin, steps and where they begin, hold time, step time
abbrev pub numbers : Contents → List ℕ
numbers c =
    c.n ∷ c.links ∷
    c.changes.count ∷ c.changes.at ∷ c.steps.count ∷ c.steps.at ∷
    c.hold_time ∷ c.step_time ∷ []
