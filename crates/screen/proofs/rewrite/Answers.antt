use Rattle.screen.proofs.StoreCalls.{rewritten}
use Rattle.screen.proofs.rewrite.Goals as goal

pub returns : goal.returns
returns c = search rewritten
