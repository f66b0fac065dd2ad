use Rattle.rows.proofs.MarkColumns.{count_begin, count_end, count_stop, count_room, count_fits, count_falls, count_turn}
use Rattle.rows.proofs.marks.drawn_columns.Goals as goal

pub loop-p-init : goal.loop-p-init
loop-p-init c = search count_begin

pub returns-in_default : goal.returns-in_default
returns-in_default c = count_stop _ _ _ c.loop-p.invariant c.loop-p-test.true c.in_default.ensures

pub overflow_add-columns : goal.overflow_add-columns
overflow_add-columns c = record { fits = count_room _ _ _ c.loop-p.invariant _ c.loop-p-test.true c.in-Some.ensures _ c.mark_columns.ensures c.requires }

pub overflow_add-p : goal.overflow_add-p
overflow_add-p c = record { fits = count_fits _ _ _ c.loop-p.invariant _ c.loop-p-test.true c.in-Some.ensures c.requires }

pub loop-p-smaller : goal.loop-p-smaller
loop-p-smaller c = count_falls _ _ _ c.loop-p.invariant _ c.loop-p-test.true c.in-Some.ensures

pub loop-p-preserved : goal.loop-p-preserved
loop-p-preserved c = count_turn _ _ _ c.loop-p.invariant _ c.loop-p-test.true c.in-Some.ensures _ c.mark_columns.ensures

pub returns : goal.returns
returns c = search count_end
