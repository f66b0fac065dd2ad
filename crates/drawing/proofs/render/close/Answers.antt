use Rattle.drawing.specs.Attributes.{plain}
use Rattle.drawing.proofs.LineEdges.{closed}
use Rattle.drawing.proofs.render.close.Goals as goal

pub returns : goal.returns
unfolding plain
returns c = search closed
