use Rattle.show.proofs.Parts.{taken_is}
use Rattle.show.proofs.file.flush.Goals as goal

pub returns-in-Ok : goal.returns-in-Ok
returns-in-Ok c = search taken_is

pub returns-in-Err : goal.returns-in-Err
returns-in-Err c = search taken_is
