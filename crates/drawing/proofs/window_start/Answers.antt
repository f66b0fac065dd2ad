use Rattle.buffer.specs.Conditions.{branch}
use Rattle.drawing.proofs.window_start.Goals as goal

pub returns-then-start-gt0 : goal.returns-then-start-gt0
returns-then-start-gt0 c = search branch depth 10 fits 20000

pub returns : goal.returns
returns c = search branch depth 10 fits 20000
