use Rattle.screen.proofs.Moves.{back_one}
use Rattle.screen.proofs.screen.Screen.back.Goals as goal

pub returns : goal.returns
returns c = search back_one
