use Rattle.std.proofs.Common.{rules}
use Rattle.unicode_io.specs.Cells.Laws.{changing_begins, changing_turn, changing_ends}
use Rattle.unicode_io.proofs.cells.classify.Goals as goal

pub loop-cell-init : goal.loop-cell-init
loop-cell-init c = search changing_begins

pub loop-cell-preserved : goal.loop-cell-preserved
loop-cell-preserved c = changing_turn _ _ _ _ c.loop-cell.invariant _ (search rules) c.kind.ensures

pub returns : goal.returns
returns c = changing_ends _ _ _ _ c.loop-cell.invariant (search rules)
