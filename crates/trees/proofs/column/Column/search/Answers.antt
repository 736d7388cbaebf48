-- The loop begins with the front of the destination alone. In a turn the routers that are taken are settled, and what
-- they offer fits. At the end no reached router is left, and the column is the destination's.
use Rattle.std.proofs.Common.{ℕ, ap, ◌∙◌}
use Rattle.std.specs.Prelude.{replicate}
use Rattle.std.proofs.lemmas.List.{get_or-replicate, length-replicate}
use Rattle.area.specs.Limits.{width, unreached}
use Rattle.sets.specs.Sets.{union}
use Rattle.trees.proofs.Growing.{start, inside, room, fewer, more, distance_column, hop_column}
use Rattle.trees.proofs.column.Column.search.Goals as goal

pub loop-reached-init : goal.loop-reached-init
loop-reached-init c =
    rw (c.requires.blank.0, c.requires.blank.1)
    (start c.args.links.now.few c.requires.router (replicate width unreached) (replicate width 0)
    (length-replicate {A = ℕ} width unreached) (λ i l. get_or-replicate width i unreached 0 l)
    (λ i l. get_or-replicate width i 0 0 l) c.add-reached.ensures.set)

pub settle-offered-requires : goal.settle-offered-requires
settle-offered-requires c =
    let l = c.args.links.now in
    let f = c.loop-reached.invariant in
    let near = c.nearest-next.ensures in
    record {
      done = inside l.n l.metric.now l.to l.few l.used c.requires.router f near c.join-settled.ensures.set;
      fits = room l.n l.metric.now l.to l.few l.used c.requires.router f near c.join-settled.result;
    }

pub loop-reached-smaller : goal.loop-reached-smaller
loop-reached-smaller c =
    let l = c.args.links.now in
    fewer l.n l.metric.now l.to l.few l.used c.requires.router c.loop-reached.invariant c.nearest-next.ensures
    c.loop-reached-test.true c.join-settled.ensures.set

pub loop-reached-preserved : goal.loop-reached-preserved
loop-reached-preserved c =
    let l = c.args.links.now in
    let settle = c.settle-offered in
    let joined = c.join-settled.ensures.set in
    more l.n l.metric.now l.to l.few l.used c.requires.router c.loop-reached.invariant c.nearest-next.ensures _ _ _
    (rw joined at settle.ensures.turned) (rw joined at settle.ensures.offered) joined
    (c.join-reached.ensures.set ∙ ap (λ (x : ℕ). union width x settle.result) c.without.ensures.set)

pub returns : goal.returns
returns c =
    let few = c.args.links.now.few in
    let column = c.loop-reached.self in
    let f = c.loop-reached.invariant in
    let none = c.loop-reached-test.false in
    record {
      distances = distance_column few c.requires.router f none column.sized.0;
      next_hops = hop_column few c.requires.router f none column.routers column.sized.1;
    }
