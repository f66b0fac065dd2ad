use Rattle.spans.proofs.KnownParameters.{other_parameter}
use Rattle.spans.proofs.sgr.meaning_of.Goals as goal

pub returns-in_default : goal.returns-in_default
returns-in_default c = search other_parameter
