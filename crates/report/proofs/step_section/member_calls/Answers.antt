use Rattle.report.proofs.CallLineLaws.{each_start, member_called, member_uncalled}
use Rattle.report.proofs.step_section.member_calls.Goals.{then-member, else-member}
use Rattle.report.proofs.step_section.member_calls.Goals as goal

pub loop-x-init : goal.loop-x-init
loop-x-init c = each_start _ _

pub loop-x-preserved : goal.loop-x-preserved
loop-x-preserved c = elim c.if-member.branch [
  | then-member w ↦
      rw w.text-is
      (member_called _ _ _ _ c.member.ensures.answer w.if-member.true c.loop-x.invariant w.call_line.ensures.line)
  | else-member w ↦ rw w.text-is (member_uncalled _ _ _ _ c.member.ensures.answer w.if-member.false c.loop-x.invariant)
]
