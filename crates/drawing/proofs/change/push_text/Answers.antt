use Rattle.drawing.proofs.Changes.{text_emit}
use Rattle.drawing.proofs.change.push_text.Goals as goal

pub returns : goal.returns
returns c = search text_emit
