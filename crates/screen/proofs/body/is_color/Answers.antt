use Rattle.screen.proofs.Bodies.{color_is}
use Rattle.screen.proofs.body.is_color.Goals as goal

pub returns : goal.returns
returns c = search color_is
