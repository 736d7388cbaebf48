-- How many bytes a program has for a text: no text has more (proofs/RoomLaws.antt). src/lib.rt has the same numbers.
use Rattle.std.specs.Prelude.{ℕ, ◌+◌, ◌*◌}
use Rattle.area.specs.Limits.{width, most_steps}
use Rattle.report.specs.declared.Text.{Text}
use Rattle.report.specs.declared.Text.TheVariants.{Rehearsal, Routes, SheetTurns, SheetSteps, Unfinished}

abbrev pub rehearsal_room : ℕ
rehearsal_room = 133 * width + 27 + 55 * most_steps + 4

abbrev pub routes_room : ℕ
routes_room = 19 + 148 * (width * width)

abbrev pub sheet_turns_room : ℕ
sheet_turns_room = (67 + 42 * width) * width + 4

abbrev pub sheet_steps_room : ℕ
sheet_steps_room = 5 + 9 * most_steps

abbrev pub unfinished_room : ℕ
unfinished_room = (118 + 42 * width) * width + 29

-- of each text by its name
abbrev pub room_of : (text : Text) → ℕ
room_of Rehearsal = rehearsal_room
room_of Routes = routes_room
room_of SheetTurns = sheet_turns_room
room_of SheetSteps = sheet_steps_room
room_of Unfinished = unfinished_room
