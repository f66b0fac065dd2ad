use Rattle.show.proofs.Parts.{more_shown}
use Rattle.show.proofs.file.more.Goals as goal

pub returns : goal.returns
returns g c = search more_shown
