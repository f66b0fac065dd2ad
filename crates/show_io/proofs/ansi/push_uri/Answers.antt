use Rattle.show_io.proofs.Bodies.{uri_pushed}
use Rattle.show_io.proofs.ansi.push_uri.Goals as goal

pub returns : goal.returns
returns c = search uri_pushed
