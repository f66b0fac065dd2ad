use Rattle.marks.proofs.Composing.{mark_pushed}
use Rattle.marks.proofs.composed.push_scalar_mark.Goals as goal

pub returns : goal.returns
returns c = search mark_pushed
