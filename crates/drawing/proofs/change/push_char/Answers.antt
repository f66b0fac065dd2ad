use Rattle.drawing.proofs.Changes.{char_emit}
use Rattle.drawing.proofs.change.push_char.Goals as goal

pub returns : goal.returns
returns c = search char_emit
