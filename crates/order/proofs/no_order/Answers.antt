use Rattle.std.proofs.Common.{refl}
use Rattle.order.specs.Order.{no_order}
use Rattle.order.proofs.no_order.Goals as goal

pub returns : goal.returns
unfolding no_order
returns c = refl
