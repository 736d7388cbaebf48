--     loop-q-init        the front of the source alone
--     relax-requires     a metric more than the distance of the router that is taken fits
--     loop-q-preserved   the front with that router settled
--     returns            no reached router is left: the rows are the source's
use Rattle.std.proofs.Common.{refl, ◌∙◌}
use Rattle.search.proofs.Settling as S
use Rattle.search.proofs.settle.Goals as goal

pub loop-q-init : goal.loop-q-init
loop-q-init c =
    let a = c.args in
    let r = c.requires in
    S.start r.n_le_width.0 r.source_lt_n.0 a.dist.now a.hops.now
    r.source_lt_n.1 r.source_lt_n.2 r.by_index r.by_index_2 (λ j. (c.type_inv.hops j).fits)

pub relax-requires-clause-q_lt_n : goal.relax-requires-clause-q_lt_n
relax-requires-clause-q_lt_n c =
    let r = c.requires in
    let q = c.in-Some.ensures in
    (q.inside, S.room r.n_le_width.0 r.source_lt_n.0 c.loop-q.invariant q.nearest q.inside)

pub loop-q-smaller : goal.loop-q-smaller
loop-q-smaller c =
    let r = c.requires in
    let q = c.in-Some.ensures in
    rw c.add-settled.ensures.set
    (S.fewer r.n_le_width.0 r.source_lt_n.0 c.loop-q.invariant q.nearest q.inside)

pub loop-q-preserved : goal.loop-q-preserved
loop-q-preserved c =
    let r = c.requires in
    let f = c.loop-q.invariant in
    let q = c.in-Some.ensures in
    rw c.add-settled.ensures.set
    (S.more r.n_le_width.0 r.source_lt_n.0 f q.nearest q.inside
    (c.relax.auto.dist ∙ f.len) (c.relax.auto.hops ∙ f.len_h)
    (λ j. (c.type_inv.hops j).fits)
    c.relax.ensures)

pub returns : goal.returns
returns c =
    let r = c.requires in
    let f = c.loop-q.invariant in
    let none = c.in_default.ensures.nearest in
    record {
      dist_after = S.distance_row_lem r.n_le_width.0 r.source_lt_n.0 f none refl;
      hops_after = S.hop_row_lem r.n_le_width.0 r.source_lt_n.0 f none refl;
    }
