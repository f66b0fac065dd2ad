use Rattle.screen.proofs.Storing.{head_short, head_long}
use Rattle.screen.proofs.stored.write_head.Goals as goal

pub returns-then-size-eq2 : goal.returns-then-size-eq2
returns-then-size-eq2 c = search head_short

pub returns : goal.returns
returns c = search head_long
