use Rattle.show_io.proofs.LineRows.{window_drawn, row_drawn}
use Rattle.show_io.proofs.lines.draw_large.Goals as goal

pub returns-then-view-eq0 : goal.returns-then-view-eq0
returns-then-view-eq0 c = search window_drawn

pub returns : goal.returns
returns c = search row_drawn
