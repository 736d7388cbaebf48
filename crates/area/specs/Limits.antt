-- The limits of 01, "The area and its paths".
use Rattle.std.specs.Prelude.{ℕ, ◌*◌, ◌-◌}

-- An area has at most so many routers. A set has as many bits, and a table as many rows of as many cells.
abbrev pub width : ℕ
width = 64

-- The metric of a link that is not used. A used link has a smaller one, from 1 on.
abbrev pub unused : ℕ
unused = 16777215

-- The distance where no walk exists.
abbrev pub unreached : ℕ
unreached = 4294967295

-- A change list has at most so many changes: those between one router and each of the others, both ways.
abbrev pub most_changes : ℕ
most_changes = 2 * (width - 1)

-- A hold time is at most so many ticks, and so is a step time (02, No. 10).
abbrev pub longest_time : ℕ
longest_time = 65535

-- the last time that the clock can show
abbrev pub last_time : ℕ
last_time = 4294967295

-- a bench file has at most so many steps (01, "The bench file")
abbrev pub most_steps : ℕ
most_steps = 4096
