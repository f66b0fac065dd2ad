use Rattle.text.proofs.PackedScalars.{indicator_none, indicator_some}
use Rattle.text.proofs.backward.Written.is_indicator.Goals as goal

pub returns-in-Some : goal.returns-in-Some
returns-in-Some c = search indicator_some

pub returns-in-None : goal.returns-in-None
returns-in-None c = search indicator_none
