use Rattle.marks.proofs.Composing.{no_left, left_pushed}
use Rattle.marks.proofs.composed.push_left.Goals as goal

pub returns-then-start-eq0 : goal.returns-then-start-eq0
returns-then-start-eq0 c = search no_left

pub returns : goal.returns
returns c = search left_pushed
