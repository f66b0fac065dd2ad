use Rattle.buffer.specs.Conditions.{branch}
use Rattle.drawing.proofs.row_bound.Goals as goal

pub returns-then-index-count : goal.returns-then-index-count
returns-then-index-count c = search branch depth 10 fits 20000

pub returns : goal.returns
returns c = search branch depth 10 fits 20000
