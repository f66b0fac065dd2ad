use Rattle.show_io.proofs.LineRows.{height_long, height_small, height_large}
use Rattle.show_io.proofs.lines.line_height.Goals as goal

pub returns-then-line-gt256 : goal.returns-then-line-gt256
returns-then-line-gt256 c = search height_long

pub returns-then-a-eq0 : goal.returns-then-a-eq0
returns-then-a-eq0 c = search height_small

pub returns : goal.returns
returns c = search height_large
