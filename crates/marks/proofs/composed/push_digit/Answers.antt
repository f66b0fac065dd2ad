use Rattle.marks.proofs.Composing.{digit_pushed}
use Rattle.marks.proofs.composed.push_digit.Goals as goal

pub returns : goal.returns
returns c = search digit_pushed
