use Rattle.screen.proofs.Heads.{head_is}
use Rattle.screen.proofs.records.head_at.Goals as goal

pub returns : goal.returns
returns c = search head_is
