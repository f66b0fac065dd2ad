use Rattle.drawing.proofs.Changes.{right_arrow_emit}
use Rattle.drawing.proofs.change.push_right_arrow.Goals as goal

pub returns : goal.returns
returns c = search right_arrow_emit
