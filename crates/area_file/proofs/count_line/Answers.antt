-- The two bytes, and then the comment.
use Rattle.std.proofs.Common.{rules}
use Rattle.text.specs.Text.{Writes}
use Rattle.text.proofs.WriterLaws.{writes_then}
use Rattle.hexadecimal.specs.Digits.{hexed}
use Rattle.area_file.specs.AreaFile.{count_bytes, count_line}
use Rattle.area_file.proofs.count_line.Goals as goal

pub returns : goal.returns
unfolding count_line
returns c =
    let digits : Writes c.args.out.now (hexed (count_bytes c.args.count)) c.hex_bytes.new.out = search rules in
    writes_then digits c.line.ensures.appended
