use Rattle.marks.proofs.Composing.{rest_pushed}
use Rattle.marks.proofs.composed.push_rest.Goals as goal

pub returns : goal.returns
returns c = search rest_pushed
