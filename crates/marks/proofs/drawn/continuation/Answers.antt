use Rattle.buffer.specs.Conditions.{branch}
use Rattle.marks.specs.Composed.{continuation_of}
use Rattle.marks.proofs.drawn.continuation.Goals as goal

pub returns-then-k-eq0 : goal.returns-then-k-eq0
unfolding continuation_of
returns-then-k-eq0 c = search branch depth 10

pub returns-then-k-eq1 : goal.returns-then-k-eq1
unfolding continuation_of
returns-then-k-eq1 c = search branch depth 10

pub returns : goal.returns
unfolding continuation_of
returns c = search branch depth 10
