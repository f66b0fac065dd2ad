use Rattle.std.proofs.Common.{◌<◌, ◌^◌, arith}
use borrow.Author.Tests.{eq-eqb, ne_eqb}
use Rattle.rows.proofs.PushedRows.{count_next, tally_is}
use Rattle.rows.proofs.wrap.RowCounts.count_row.Goals.{then-self, else-self, then-self-2, else-self-2}
use Rattle.rows.proofs.wrap.RowCounts.count_row.Goals as goal

pub returns : goal.returns
returns c =
    let t = c.args.self.now in
    let small : t.count < 2 ^ 64 = omega arith in
    tally_is t c.args.start c.args.end c.if-self.from c.if-self-2.to c.saturating_add.result
    (count_next t.count c.saturating_add.result small c.saturating_add.ensures)
    (elim c.if-self.branch [ then-self w ↦ rw (eq-eqb t.count t.first w.if-self.true) w.from-is | else-self w ↦ rw (ne_eqb t.count t.first w.if-self.false) w.from-is ])
    (elim c.if-self-2.branch [ then-self-2 w ↦ rw (eq-eqb t.count t.last w.if-self-2.true) w.to-is | else-self-2 w ↦ rw (ne_eqb t.count t.last w.if-self-2.false) w.to-is ])
