use Rattle.marks.proofs.Composing.{change_pushed}
use Rattle.marks.proofs.composed.push_change.Goals as goal

pub returns : goal.returns
returns c = search change_pushed
