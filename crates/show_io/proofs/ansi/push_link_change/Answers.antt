use Rattle.show_io.proofs.Bodies.{link_none, link_some}
use Rattle.show_io.proofs.ansi.push_link_change.Goals as goal

pub returns-then-are_alike : goal.returns-then-are_alike
returns-then-are_alike c = search link_none

pub returns : goal.returns
returns c = search link_some
