use Rattle.buffer.specs.Conditions.{branch}
use Rattle.marks.specs.Composed.{shown_from}
use Rattle.marks.proofs.composed.shown_from.Goals as goal

pub returns-then-start-eq0 : goal.returns-then-start-eq0
unfolding shown_from
returns-then-start-eq0 c = search branch depth 10

pub returns : goal.returns
unfolding shown_from
returns c = search branch depth 10
