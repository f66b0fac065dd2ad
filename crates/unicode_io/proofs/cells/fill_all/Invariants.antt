use Rattle.unicode_io.specs.Cells.Laws.{Filling}
use Rattle.unicode_io.proofs.cells.fill_all.Given as goal

abbrev pub invariant-loop-cell : goal.invariant-loop-cell
invariant-loop-cell l = Filling l.bit l.weight l.initial.cell-items l.cell-items l.any l.cell-index
