use Rattle.marks.proofs.Composing.{arrow_pushed}
use Rattle.marks.proofs.composed.push_arrow.Goals as goal

pub returns : goal.returns
returns c = search arrow_pushed
