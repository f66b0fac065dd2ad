use Rattle.drawing.proofs.LineEdges.{window_arrow, window_clear, window_none}
use Rattle.drawing.proofs.render.close_window.Goals as goal

pub returns-then-end-position : goal.returns-then-end-position
returns-then-end-position c = search window_arrow

pub returns-then-position-end : goal.returns-then-position-end
returns-then-position-end c = search window_clear

pub returns : goal.returns
returns c = search window_none
