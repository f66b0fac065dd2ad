use Rattle.marks.proofs.Composing.{letter_pushed, no_letter}
use Rattle.marks.proofs.composed.push_letter.Goals as goal

pub returns-then-column-start : goal.returns-then-column-start
returns-then-column-start c = search letter_pushed

pub returns : goal.returns
returns c = search no_letter
