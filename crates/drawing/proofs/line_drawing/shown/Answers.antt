use Rattle.drawing.proofs.LineDrawing.{copy_slice, copy_shown, text_shown}
use Rattle.drawing.proofs.line_drawing.shown.Goals as goal

pub slice_bounds-result-end : goal.slice_bounds-result-end
slice_bounds-result-end c = search copy_slice

pub returns-then-has_replacements : goal.returns-then-has_replacements
returns-then-has_replacements c = search copy_shown

pub returns : goal.returns
returns c = search text_shown
