use Rattle.unicode_io.specs.Cells.{kept_of}
use Rattle.unicode_io.specs.Cells.Laws.{Changing}
use Rattle.unicode_io.proofs.cells.next_file.Given as goal

abbrev pub invariant-loop-cell : goal.invariant-loop-cell
invariant-loop-cell l = Changing kept_of l.initial.cell-items l.cell-items l.cell-index
