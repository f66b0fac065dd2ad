use Rattle.screen.proofs.Moves.{right_one, right_none, right_past}
use Rattle.screen.proofs.screen.Screen.right.Goals as goal

pub returns-then-self-width-2 : goal.returns-then-self-width-2
returns-then-self-width-2 c = search right_one

pub returns-else-self-width-2 : goal.returns-else-self-width-2
returns-else-self-width-2 c = search right_none

pub returns-else-self-width : goal.returns-else-self-width
returns-else-self-width c = search right_past
