use Rattle.std.proofs.Common.{rules}
use Rattle.show_io.proofs.LineRows.{rows_begin, rows_turn, rows_refused, rows_end}
use Rattle.show_io.proofs.lines.push_rows.Goals as goal

pub loop-i-init : goal.loop-i-init
loop-i-init c = search rows_begin

pub loop-i-preserved : goal.loop-i-preserved
loop-i-preserved c = rows_turn _ _ _ _ _ _ _ _ _ _ c.loop-i.invariant (search rules) _ _ c.in-Ok.ensures (search rules)

pub returns-in-Err : goal.returns-in-Err
returns-in-Err c = rows_refused _ _ _ _ _ _ _ _ _ _ c.loop-i.invariant (search rules) _ _ c.in-Err.ensures _ _ c.push_refusal.ensures

pub returns : goal.returns
returns c = search rows_end
