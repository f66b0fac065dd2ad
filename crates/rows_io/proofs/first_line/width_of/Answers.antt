use Rattle.buffer.specs.Conditions.{branch}
use Rattle.rows_io.proofs.first_line.width_of.Goals as goal

pub returns-then-f : goal.returns-then-f
returns-then-f c = search branch depth 10 fits 20000

pub returns : goal.returns
returns c = search branch depth 10 fits 20000
