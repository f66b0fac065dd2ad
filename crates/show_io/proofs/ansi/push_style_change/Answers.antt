use Rattle.show_io.proofs.Bodies.{style_none, style_some}
use Rattle.show_io.proofs.ansi.push_style_change.Goals as goal

pub returns-then-are_alike : goal.returns-then-are_alike
returns-then-are_alike c = search style_none

pub returns : goal.returns
returns c = search style_some
