use Rattle.drawing.proofs.Marks.{byte_pushed}
use Rattle.drawing.proofs.mark.push_byte_mark.Goals as goal

pub returns : goal.returns
returns c = search byte_pushed
