-- Telling sets and ranks are found from the table of waiting sets.
use Rattle.std.proofs.Common.{◌≡◌, ℕ, ◌≤◌, sym, ◌∙◌, inl, inr, refl, Bool, List, get_or}
use Rattle.area.specs.Limits.{width}
use Rattle.area.specs.Tables.{cell, per_router}
use Rattle.ranks.specs.Rank.{ranks_of}
use Rattle.ranks.proofs.RankLaws.{ranks_in}
use Rattle.order.specs.Order.{waiting_by, telling_by, ordered}
use Rattle.order.proofs.Converse.{converse_of, ranks_of_lem}
use Rattle.order.proofs.OrderLaws.{readable_sizes, order_read, order_unread}
use Rattle.order.proofs.order_of.Goals as goal
use Rattle.order.proofs.order_of.Goals.{then-rising, else-rising}
use Rattle.order.proofs.order_of.Goals.{then-root-ge-WIDTH-via-then-root-ge-WIDTH}
use Rattle.order.proofs.order_of.Goals.{then-root-ge-WIDTH-via-else-root-ge-WIDTH+then-not-are_readable}

put_together :
    (n c : ℕ) (rising : Bool) (old new ws ts rs : List ℕ)
    → n ≤ width
    → ws ≡ per_router width n (waiting_by n c rising (cell width old) (cell width new))
    → ts ≡ per_router width n (telling_by n (λ s. get_or ws s 0))
    → rs ≡ ranks_of n ws
    → record { waiting = ws; telling = ts; ranks = rs } ≡ ordered n c rising old new
unfolding ordered
put_together n c rising old new ws ts rs most w t r =
    let waits = waiting_by n c rising (cell width old) (cell width new) in
    let t_is = t ∙ converse_of width n waits ws most w in
    let r_is = r ∙ ranks_in n ws most ∙ ranks_of_lem width n waits ws most w in
    rw (w, t_is, r_is) refl

pub returns-then-root-ge-WIDTH : goal.returns-then-root-ge-WIDTH
returns-then-root-ge-WIDTH c =
    let a = c.args in
    record {
      order = c.no_order.ensures
          ∙ sym (order_unread a.n a.root a.old.now a.new.now a.rising
          (elim c.then-root-ge-WIDTH.branch [
            | then-root-ge-WIDTH-via-then-root-ge-WIDTH w ↦ inl w.if-root-ge-WIDTH.true
            | then-root-ge-WIDTH-via-else-root-ge-WIDTH+then-not-are_readable w ↦
                inr (sym w.if-not-are_readable.ensures)
          ]));
    }

pub toward-requires : goal.toward-requires
toward-requires c =
    let s = readable_sizes c.args.n c.args.old.now c.args.new.now (sym c.if-not-are_readable.ensures) in
    (s.0, c.if-root-ge-WIDTH.false, s.1)

pub toward-waiting-requires : goal.toward-waiting-requires
toward-waiting-requires c =
    let s = readable_sizes c.args.n c.args.old.now c.args.new.now (sym c.if-not-are_readable.ensures) in
    (s.0, c.if-root-ge-WIDTH.false, s.2)

pub returns : goal.returns
returns c =
    let a = c.args in
    let read = sym c.if-not-are_readable.ensures in
    let most = (readable_sizes a.n a.old.now a.new.now read).0 in
    let waits : c.if-rising.waiting ≡ per_router width a.n
    (waiting_by a.n a.root a.rising (cell width a.old.now) (cell width a.new.now)) =
    elim c.if-rising.branch [
      | then-rising w ↦
          let to_root : ℕ → ℕ = λ r. cell width a.old.now r a.root in
          rw w.if-rising.true
          (w.waiting-is
          ∙ w.converse-waiting.ensures
          ∙ converse_of width a.n to_root w.toward.result most w.toward.ensures)
      | else-rising w ↦ rw w.if-rising.false (w.waiting-is ∙ w.toward-waiting.ensures)
    ] in
    record {
      order =
          put_together a.n a.root a.rising a.old.now a.new.now c.if-rising.waiting c.converse-telling.result
          c.ranks-ranks.result most waits c.converse-telling.ensures c.ranks-ranks.ensures.ranks
          ∙ sym (order_read a.n a.root a.old.now a.new.now a.rising c.if-root-ge-WIDTH.false read);
    }
