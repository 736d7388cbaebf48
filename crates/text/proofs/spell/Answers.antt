use Rattle.std.proofs.Common.{arith, rules}
use Rattle.text.proofs.Spelling.{spelled_none, spelled_more, spelled_done}
use Rattle.text.proofs.spell.Goals as goal

pub loop-rest-init : goal.loop-rest-init
loop-rest-init c = spelled_none c.args.x c.args.digits.now c.requires (search rules)

pub loop-rest-preserved : goal.loop-rest-preserved
loop-rest-preserved c = spelled_more c.loop-rest.invariant c.loop-rest-test.true

pub returns : goal.returns
returns c = (omega arith, spelled_done c.loop-rest.invariant (omega arith))
