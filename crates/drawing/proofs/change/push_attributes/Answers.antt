use Rattle.drawing.proofs.Changes.{attributes_emit}
use Rattle.drawing.proofs.change.push_attributes.Goals as goal

pub returns : goal.returns
returns c = search attributes_emit
