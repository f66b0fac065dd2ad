use Rattle.show_io.proofs.Bodies.{link_pushed}
use Rattle.show_io.proofs.ansi.push_link.Goals as goal

pub returns : goal.returns
returns c = search link_pushed
