-- The output buffer has room for all that is written (isis_room), and what was read of the input decides it
-- (isis_first).
use Rattle.std.proofs.Common.{arith, length}
use Rattle.area_file.specs.FromIsis.{isis_text}
use Rattle.area_file.proofs.FromIsisLaws.{isis_room, isis_first}
use Rattle.streams.proofs.StreamLaws.{whole_bytes}
use Rattle.from_isis.proofs.whole.Goals as goal

pub returns-clause-text : goal.returns-clause-text
returns-clause-text c =
    let a = c.args in
    let stream = a.stream.now in
    let table = a.table.now in
    (whole_bytes (λ s. isis_text s table) stream a.count c.from_isis.ensures.text
    (λ f. omega (arith, isis_room f table))
    (λ k. (c.type_inv.stream k).fits)
    (λ f small. isis_first f table (length stream) (omega arith)
    (omega (arith, small 0 (omega arith), small 1 (omega arith))))).1
