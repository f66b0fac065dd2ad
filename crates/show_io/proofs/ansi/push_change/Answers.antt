use Rattle.show_io.proofs.Bodies.{change_pushed}
use Rattle.show_io.proofs.ansi.push_change.Goals as goal

pub returns : goal.returns
returns c = search change_pushed
