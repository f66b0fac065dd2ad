use Rattle.screen.proofs.Moves.{behind_is}
use Rattle.screen.proofs.screen.Screen.behind.Goals as goal

pub returns : goal.returns
returns c = search behind_is
