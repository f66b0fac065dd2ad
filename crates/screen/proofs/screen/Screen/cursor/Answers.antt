use Rattle.buffer.specs.Conditions.{branch}
use Rattle.screen.proofs.screen.Screen.cursor.Goals as goal

pub returns-then-self-width : goal.returns-then-self-width
returns-then-self-width c = search branch

pub returns-else-self-width : goal.returns-else-self-width
returns-else-self-width c = search branch
