use Rattle.std.proofs.Common.{sym, ◌∙◌, ◌≡◌, ◌+◌, ◌-◌, ◌*◌, eq-eqb, ne_eqb, arith}
use Rattle.area.specs.Limits.{unused}
use Rattle.entries.specs.Entries.{metric}
use Rattle.entries.proofs.EntryLaws.{read_metric}
use Rattle.rewriting.proofs.LiveLaws.{live_none, live_kept, live_dropped}
use Rattle.rewriting.proofs.live_links.Goals as goal
use Rattle.rewriting.proofs.live_links.Goals.{then-decode-ne-UNUSED, else-decode-ne-UNUSED}

pub loop-e-init : goal.loop-e-init
loop-e-init c = live_none c.args.links.now c.args.out.now

pub loop-e-preserved : goal.loop-e-preserved
loop-e-preserved c =
    let l = c.args.links.now in
    let e = c.loop-e.e in
    let read : c.decode.result.metric ≡ metric l e = read_metric c.decode.ensures.entry in
    let five : 5 * e + 5 - 5 * e ≡ 5 = omega arith in
    elim c.if-decode-ne-UNUSED.branch [
      | then-decode-ne-UNUSED w ↦
          let live = ne_eqb (metric l e) unused (λ q. w.if-decode-ne-UNUSED.true (read ∙ q)) in
          rw w.out-is (live_kept l e c.loop-e.invariant live (rw five at w.append.ensures.appended))
      | else-decode-ne-UNUSED w ↦
          let dead = eq-eqb (metric l e) unused (sym read ∙ w.if-decode-ne-UNUSED.false) in
          rw w.out-is (live_dropped l e c.loop-e.invariant dead)
    ]
