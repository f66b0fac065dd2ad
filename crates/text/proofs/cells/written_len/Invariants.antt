use lib.ListN.{length}
use Rattle.text.proofs.CellLoops.{Counted}
use Rattle.text.proofs.cells.written_len.Given as goal

abbrev pub invariant-loop-left : goal.invariant-loop-left
invariant-loop-left l = Counted l.cells l.left l.n

abbrev pub decreases-loop-left : goal.decreases-loop-left
decreases-loop-left l = length l.left
