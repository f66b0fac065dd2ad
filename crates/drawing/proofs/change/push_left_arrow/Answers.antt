use Rattle.drawing.specs.Attributes.{plain}
use Rattle.drawing.proofs.Changes.{left_arrow_emit}
use Rattle.drawing.proofs.change.push_left_arrow.Goals as goal

pub returns : goal.returns
unfolding plain
returns c = search left_arrow_emit
