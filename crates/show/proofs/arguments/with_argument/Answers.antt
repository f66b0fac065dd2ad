use Rattle.show.proofs.Texts.{argument_read}
use Rattle.show.proofs.arguments.with_argument.Goals as goal

pub returns : goal.returns
returns g c = search argument_read
