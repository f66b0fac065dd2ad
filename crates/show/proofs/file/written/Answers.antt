use Rattle.show.proofs.Parts.{written_is}
use Rattle.show.proofs.file.written.Goals as goal

pub returns : goal.returns
returns c = search written_is
