use Rattle.text.proofs.CellLoops.{cells_end, cells_fail, cells_turn}
use Rattle.text.proofs.cells.are_cells.Goals as goal

pub returns-then-not-is_cell : goal.returns-then-not-is_cell
returns-then-not-is_cell c = cells_fail _ _ c.loop-left.invariant c.in-len2-up.len_at_least _ c.is_cell.ensures c.if-not-is_cell.true

pub loop-left-preserved : goal.loop-left-preserved
loop-left-preserved c = cells_turn _ _ c.loop-left.invariant c.in-len2-up.len_at_least _ c.is_cell.ensures c.if-not-is_cell.false

pub returns : goal.returns
returns c = cells_end _ _ c.loop-left.invariant c.in_default.len_below _ c.is_empty.ensures
