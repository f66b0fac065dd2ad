use Rattle.marks.proofs.Composing.{plain_pushed}
use Rattle.marks.proofs.composed.push_plain.Goals as goal

pub returns : goal.returns
returns c = search plain_pushed
