use Rattle.marks.proofs.Composing.{lower_pushed}
use Rattle.marks.proofs.composed.push_lower_digits.Goals as goal

pub returns : goal.returns
returns c = search lower_pushed
