use Rattle.drawing.proofs.LineEdges.{rows_clear, rows_none}
use Rattle.drawing.proofs.render.close_rows.Goals as goal

pub returns-then-room : goal.returns-then-room
returns-then-room c = search rows_clear

pub returns : goal.returns
returns c = search rows_none
