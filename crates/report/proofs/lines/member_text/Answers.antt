use Rattle.std.proofs.Common.{◌≡◌, arith}
use Rattle.area.specs.Limits.{width}
use Rattle.report.proofs.lines.member_text.Goals as goal

pub returns : goal.returns
returns c = let all : c.loop-k.k ≡ width = omega arith in record { text = rw all at c.loop-k.invariant }
