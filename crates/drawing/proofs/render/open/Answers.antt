use Rattle.drawing.proofs.LineEdges.{opened_bare, opened_rows}
use Rattle.drawing.proofs.render.open.Goals as goal

pub returns-in-Rows : goal.returns-in-Rows
returns-in-Rows c = search opened_rows

pub returns-else-arrow : goal.returns-else-arrow
returns-else-arrow c = search opened_bare
