use Rattle.marks.proofs.Composing.{byte_pushed}
use Rattle.marks.proofs.composed.push_byte_mark.Goals as goal

pub returns : goal.returns
returns c = search byte_pushed
