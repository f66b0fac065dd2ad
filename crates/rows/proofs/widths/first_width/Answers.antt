use Rattle.std.proofs.Common.{le-leb, arith}
use Rattle.std.proofs.lemmas.Bool.{lt-leb}
use Rattle.rows.proofs.TriedWidths.{trying_begins, trying_stops, trying_goes_on, trying_last, trying_none}
use Rattle.rows.proofs.widths.first_width.Goals as goal

pub loop-width-init : goal.loop-width-init
loop-width-init c = trying_begins _ _

pub returns-then-rows_at-wanted : goal.returns-then-rows_at-wanted
returns-then-rows_at-wanted c = trying_stops _ _ _ c.loop-width.invariant (omega arith) (le-leb _ _ (rw c.rows_at.ensures at c.if-rows_at-wanted.true))

pub loop-width-preserved : goal.loop-width-preserved
loop-width-preserved c = trying_goes_on _ _ _ c.loop-width.invariant (omega arith) (lt-leb _ _ (rw c.rows_at.ensures at c.if-rows_at-wanted.false))

pub returns-else-rows_at-wanted : goal.returns-else-rows_at-wanted
returns-else-rows_at-wanted c = trying_last _ _ _ c.loop-width.invariant (omega arith) (lt-leb _ _ (rw c.rows_at.ensures at c.if-rows_at-wanted.false)) (omega arith)

pub returns : goal.returns
returns c = trying_none _ _ _ c.loop-width.invariant (omega arith)
