use Rattle.drawing.proofs.Changes.{clear_emit}
use Rattle.drawing.proofs.change.push_clear.Goals as goal

pub returns : goal.returns
returns c = search clear_emit
