use Rattle.show_io.proofs.LineRows.{line_window, line_spans, line_rows, line_refused}
use Rattle.show_io.proofs.lines.push_line.Goals as goal

pub returns-then-view-eq0 : goal.returns-then-view-eq0
returns-then-view-eq0 c = search line_window

pub returns-then-view-eq5 : goal.returns-then-view-eq5
returns-then-view-eq5 c = search line_spans

pub returns-then-h-eq0 : goal.returns-then-h-eq0
returns-then-h-eq0 c = search line_rows

pub returns : goal.returns
returns c = search line_refused
