-- The routers that have come have offered their ways (`Turning`).
use Rattle.trees.proofs.Turning.{Turning}
use Rattle.trees.proofs.column.Column.settle.Given as goal

abbrev pub invariant-loop-q : goal.invariant-loop-q
invariant-loop-q l =
    Turning l.links.metric.now l.links.to l.next l.settled l.fn.self.dist l.fn.self.hops l.self.dist l.self.hops
    l.offered l.yielded
