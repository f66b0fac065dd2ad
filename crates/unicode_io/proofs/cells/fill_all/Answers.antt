use Rattle.std.proofs.Common.{rules}
use Rattle.unicode_io.specs.Cells.Laws.{filling_begins, filling_turn, filling_ends}
use Rattle.unicode_io.proofs.cells.fill_all.Goals as goal

pub loop-cell-init : goal.loop-cell-init
loop-cell-init c = search filling_begins

pub loop-cell-preserved : goal.loop-cell-preserved
loop-cell-preserved c = filling_turn _ _ _ _ _ _ c.loop-cell.invariant _ _ (search rules) c.is_taken-any.ensures c.filled_cell.ensures

pub returns : goal.returns
returns c = filling_ends _ _ _ _ _ _ c.loop-cell.invariant (search rules)
