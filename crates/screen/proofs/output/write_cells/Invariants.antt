use Rattle.screen.proofs.Bytes.{WriteCells}
use Rattle.screen.proofs.output.write_cells.Given as goal

abbrev pub invariant-loop-i : goal.invariant-loop-i
invariant-loop-i l = WriteCells l.list l.row l.end l.initial.out l.out l.at l.i
