use Rattle.screen.proofs.Cells.{Fill}
use Rattle.screen.proofs.row.fill.Given as goal

abbrev pub invariant-loop-i : goal.invariant-loop-i
invariant-loop-i l = Fill l.initial.row l.from l.to l.cluster l.len l.body l.row l.i
