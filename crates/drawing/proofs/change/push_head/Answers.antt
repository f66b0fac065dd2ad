use Rattle.drawing.proofs.Changes.{head_emit}
use Rattle.drawing.proofs.change.push_head.Goals as goal

pub returns : goal.returns
returns c = search head_emit
