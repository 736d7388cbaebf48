use Rattle.std.proofs.Common.{sym, arith, rules, below_none, below_more}
use Rattle.area.proofs.TestLaws.{first_none}
use Rattle.entries.specs.Entries.{entry_count, listed_refusal}
use Rattle.entries.proofs.SeenLaws.{seen_none, seen_next, seen_beyond}
use Rattle.changes.proofs.ChangeLaws.{first_refused}
use Rattle.changes.proofs.checks.first_refusal.Goals as goal
use Rattle.changes.proofs.checks.first_refusal.Goals.{then-change-lt-WIDTH, else-change-lt-WIDTH}

pub loop-e-init : goal.loop-e-init
loop-e-init c = record { pairs = seen_none _; sound = below_none _ }

pub returns-in_err-refusal : goal.returns-in_err-refusal
returns-in_err-refusal c =
    let is = first_refused c.args.n c.args.list.now c.loop-e.e c.in_err-refusal.field-0.0 (omega arith)
    c.loop-e.invariant.sound c.in_err-refusal.ensures in
    search (rules, is)

pub loop-e-preserved : goal.loop-e-preserved
loop-e-preserved c =
    let l = c.args.list.now in
    let i = c.loop-e.invariant in
    let x = c.decode-change in
    record {
      pairs = elim c.if-change-lt-WIDTH.branch [
        | then-change-lt-WIDTH w ↦
            rw w.seen-is
            (seen_next l c.loop-e.e c.loop-e.seen i.pairs x.result x.ensures.entry w.if-change-lt-WIDTH.true
            w.add.result w.add.ensures.set)
        | else-change-lt-WIDTH w ↦
            rw w.seen-is
            (seen_beyond l c.loop-e.e c.loop-e.seen i.pairs x.result x.ensures.entry w.if-change-lt-WIDTH.false)
      ];
      sound = below_more _ c.loop-e.e i.sound (sym c.in_ok-refusal.ensures);
    }

pub returns : goal.returns
returns c =
    let a = c.args in
    let f = listed_refusal a.n a.list.now in
    record { answer = sym (first_none f (entry_count a.list.now) (λ k h. c.loop-e.invariant.sound k (omega arith))) }
