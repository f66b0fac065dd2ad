use Rattle.std.proofs.Common.{◌-◌}
use Rattle.unicode_table.specs.Printed.Laws.{Printing, Placed}
use Rattle.unicode_table.proofs.table.print.Given as goal

abbrev pub invariant-loop-row : goal.invariant-loop-row
invariant-loop-row l = Printing l.kinds l.total l.i l.place × Placed l.kinds l.i l.place

abbrev pub decreases-loop-row : goal.decreases-loop-row
decreases-loop-row l = l.total - l.i
