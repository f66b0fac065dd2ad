use Rattle.marks.proofs.Composing.{drawing_pushed}
use Rattle.marks.proofs.composed.push_drawing.Goals as goal

pub returns : goal.returns
returns c = search drawing_pushed
