use Rattle.unicode_io.specs.Cells.{kind_of}
use Rattle.unicode_io.specs.Cells.Laws.{Changing}
use Rattle.unicode_io.proofs.cells.classify.Given as goal

abbrev pub invariant-loop-cell : goal.invariant-loop-cell
invariant-loop-cell l = Changing kind_of l.initial.cell-items l.cell-items l.cell-index
