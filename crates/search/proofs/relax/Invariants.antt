-- The loop has offered the way by q to the routers below j, and the cells of the others are as they were.
use Rattle.search.proofs.Relaxing.{Relaxing}
use Rattle.search.proofs.relax.Given as goal

abbrev pub invariant-loop-j : goal.invariant-loop-j
invariant-loop-j l = Relaxing l.n l.metric l.source l.q l.fn.dist l.fn.hops l.dist l.hops l.j
