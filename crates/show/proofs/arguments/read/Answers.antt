use Rattle.show.proofs.Texts.{arguments_read}
use Rattle.show.proofs.arguments.read.Goals as goal

pub returns : goal.returns
returns g c = search arguments_read
