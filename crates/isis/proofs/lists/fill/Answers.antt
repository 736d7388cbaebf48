-- A law for each return, and for the next list.
use Rattle.std.proofs.Common.{◌≡◌, ◌≤◌, ◌<◌, ◌+◌, sym, ap, ◌∙◌, arith, rules, length, take, drop, Err}
use borrow.Author.Count.{below_none, below_more}
use Rattle.area.specs.Limits.{width}
use Rattle.area.specs.Bytes.{two}
use Rattle.area.specs.Refusals.{verdict_number}
use Rattle.area.specs.declared.refusal.Refusal.TheVariants.{Incomplete}
use Rattle.area.proofs.RowLaws.{over_lent, over_more}
use Rattle.area.proofs.RefusalLaws.{refusal_positive}
use Rattle.isis.specs.Lists.{length_at}
use Rattle.isis.proofs.ListLaws.{length_start, first_list, next_place, next_inside, none_left, some_left, first_cut}
use Rattle.isis.proofs.ListLaws.{first_judged}
use Rattle.isis.proofs.IsisLaws.{lists_first, lists_trailing, lists_pass}
use Rattle.isis.proofs.FillLaws.{lowered_clear, fill_start, fill_all}
use Rattle.isis.proofs.lists.fill.Goals as goal

pub loop-i-init : goal.loop-i-init
loop-i-init c =
    let d = c.args.lists.now in
    let start = length_start d in
    record {
      place = ap (λ k. drop k d) start;
      inside = omega (arith, start);
      none = below_none _;
      rows = fill_start c.args.identities.now d c.args.table.now c.requires.clear;
    }

pub returns-in_err-list-clause-answer : goal.returns-in_err-list-clause-answer
returns-in_err-list-clause-answer c =
    let t = c.args.identities.now in
    let d = c.args.lists.now in
    let turn = c.loop-i in
    let is : c.from_residual.result ≡ Err Incomplete = search rules in
    let short : length turn.rest.now < 2 + two turn.rest.now 0 = search rules in
    let cut = first_cut d turn.i turn.rest.now turn.invariant.place turn.invariant.inside t short in
    ap verdict_number is
    ∙ sym cut
    ∙ lists_first c.args.n t d turn.i (omega arith) turn.invariant.none (λ z. let x : ⊥ = omega (arith, cut, z) in x)

pub returns-in_err-fill_row-clause-answer : goal.returns-in_err-fill_row-clause-answer
returns-in_err-fill_row-clause-answer c =
    let t = c.args.identities.now in
    let d = c.args.lists.now in
    let turn = c.loop-i in
    let k = c.in_err-fill_row.field-0.0 in
    let is : c.from_residual-in_err-fill_row.result ≡ Err k = search rules in
    let whole : 2 + two turn.rest.now 0 ≤ length turn.rest.now = search rules in
    let part : c.in_ok-list.list.now ≡ take (two turn.rest.now 0) (drop 2 turn.rest.now) = search rules in
    let here = first_judged d turn.i turn.rest.now turn.invariant.place turn.invariant.inside t whole _ part _
    c.in_err-fill_row.ensures.answer in
    ap verdict_number is
    ∙ here
    ∙ lists_first c.args.n t d turn.i (omega arith) turn.invariant.none
    (λ z. let x : ⊥ = omega (arith, refusal_positive k, here, z) in x)

pub loop-i-preserved : goal.loop-i-preserved
loop-i-preserved c =
    let t = c.args.identities.now in
    let d = c.args.lists.now in
    let turn = c.loop-i in
    let r = turn.rest.now in
    let whole : 2 + two r 0 ≤ length r = search rules in
    let part : c.in_ok-list.list.now ≡ take (two r 0) (drop 2 r) = search rules in
    let after : c.in_ok-list.after.now ≡ drop (2 + two r 0) r = search rules in
    let within : turn.i < width = omega (arith, c.requires.few) in
    let same = part ∙ first_list d turn.i r turn.invariant.place turn.invariant.inside in
    let clear = over_lent width _ _ turn.i _ turn.invariant.rows within in
    let row = lowered_clear t d turn.i _ _ _ same clear c.in_ok-fill_row.ensures.metrics in
    let here = first_judged d turn.i r turn.invariant.place turn.invariant.inside t whole _ part _
    c.in_ok-fill_row.ensures.answer in
    record {
      place = after ∙ next_place d turn.i r turn.invariant.place turn.invariant.inside;
      inside = next_inside d turn.i r turn.invariant.place turn.invariant.inside whole;
      none = below_more _ turn.i turn.invariant.none (sym here);
      rows = over_more width _ _ turn.i _ turn.invariant.rows within c.fill_row.new.row c.fill_row.auto.row row;
    }

pub returns-then-not-is_empty-clause-answer : goal.returns-then-not-is_empty-clause-answer
returns-then-not-is_empty-clause-answer c =
    let d = c.args.lists.now in
    let turn = c.loop-i in
    let last : turn.i ≡ c.args.n = omega arith in
    let more = some_left d turn.i turn.rest.now turn.invariant.place turn.invariant.inside (search rules) in
    lists_trailing c.args.n c.args.identities.now d (λ k h. turn.invariant.none k (omega arith))
    (omega (arith, more, ap (length_at d) last))

pub returns-clause-answer : goal.returns-clause-answer
returns-clause-answer c =
    let d = c.args.lists.now in
    let turn = c.loop-i in
    let last : turn.i ≡ c.args.n = omega arith in
    let end = none_left d turn.i turn.rest.now turn.invariant.place turn.invariant.inside (search rules) in
    lists_pass c.args.n c.args.identities.now d (λ k h. turn.invariant.none k (omega arith))
    (omega (arith, end, ap (length_at d) last))

pub returns-clause-metrics : goal.returns-clause-metrics
returns-clause-metrics c = fill_all c.args.n _ _ _ c.loop-i.i (omega arith) c.loop-i.invariant.rows
