-- There is no area, and nothing is appended; or its lines are, one after another.
use Rattle.std.proofs.Common.{sym, ◌∙◌}
use Rattle.area_file.proofs.LineLaws.{area_none, area_written}
use Rattle.area_file.proofs.append_area.Goals as goal

pub returns-then-not-is_sized : goal.returns-then-not-is_sized
returns-then-not-is_sized c =
    let none = sym c.is_sized.ensures.answer ∙ c.if-not-is_sized.true in
    record { text = area_none c.args.n c.args.metrics.now c.args.out.now none }

pub returns : goal.returns
returns c =
    let some = sym c.is_sized.ensures.answer ∙ c.if-not-is_sized.false in
    let count = rw c.count_links.ensures.0 at c.count_line.ensures in
    record {
      text =
          area_written c.args.n c.args.metrics.now some c.routers_line.ensures count
          c.link_lines.ensures c.last_lines.ensures;
    }
