use Rattle.screen.proofs.Cells.{FirstColumn}
use Rattle.screen.proofs.row.first_column.Given as goal

abbrev pub invariant-loop-i : goal.invariant-loop-i
invariant-loop-i l = FirstColumn l.list l.row l.at l.i

abbrev pub decreases-loop-i : goal.decreases-loop-i
decreases-loop-i l = l.i
