use Rattle.show_io.proofs.LineRows.{line_long, line_small, line_large}
use Rattle.show_io.proofs.lines.line_row.Goals as goal

pub returns-then-line-gt256 : goal.returns-then-line-gt256
returns-then-line-gt256 c = search line_long

pub returns-in-Ok : goal.returns-in-Ok
returns-in-Ok c = line_small _ _ _ _ _ _ _ c.if-line-gt256.false c.in-Ok.ensures

pub returns : goal.returns
returns c = line_large _ _ _ _ _ _ _ _ _ c.if-line-gt256.false (rw c.in_default.is at c.small_row.ensures) c.large_row-2.ensures
