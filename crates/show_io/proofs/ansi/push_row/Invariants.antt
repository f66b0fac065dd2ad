use Rattle.show_io.proofs.Printing.{Printing}
use Prim.Native.Nat.{◌-◌}
use lib.ListN.{length}
use Rattle.show_io.proofs.ansi.push_row.Given as goal

abbrev pub invariant-loop-p : goal.invariant-loop-p
invariant-loop-p l = Printing l.initial.out l.at l.line l.row l.out l.a l.p l.was

abbrev pub decreases-loop-p : goal.decreases-loop-p
decreases-loop-p l = length l.row - l.p
