use Rattle.show_io.proofs.LineRows.{small_window_drawn, small_row_drawn}
use Rattle.show_io.proofs.lines.draw_small.Goals as goal

pub returns-then-view-eq0 : goal.returns-then-view-eq0
returns-then-view-eq0 c = search small_window_drawn

pub returns : goal.returns
returns c = search small_row_drawn
