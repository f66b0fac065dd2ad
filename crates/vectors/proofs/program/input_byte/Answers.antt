use Rattle.buffer.specs.Conditions.{branch}
use Rattle.vectors.specs.Program.{input_at}
use Rattle.vectors.proofs.program.input_byte.Goals as goal

pub returns-then-at-prefix : goal.returns-then-at-prefix
unfolding input_at
returns-then-at-prefix c = search branch depth 10

pub returns-then-behind-times : goal.returns-then-behind-times
unfolding input_at
returns-then-behind-times c = search branch depth 10

pub returns : goal.returns
unfolding input_at
returns c = search branch depth 10
