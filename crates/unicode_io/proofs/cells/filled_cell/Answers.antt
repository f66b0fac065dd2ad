use Rattle.buffer.specs.Conditions.{branch}
use Rattle.unicode_io.specs.Cells.{filled}
use Rattle.unicode_io.proofs.cells.filled_cell.Goals as goal

pub returns-then-is_taken : goal.returns-then-is_taken
unfolding filled
returns-then-is_taken c = search branch depth 10 fits 20000

pub returns : goal.returns
unfolding filled
returns c = search branch depth 10 fits 20000
