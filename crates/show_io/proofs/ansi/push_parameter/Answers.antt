use Rattle.show_io.proofs.Parameters.{parameter_pushed}
use Rattle.show_io.proofs.ansi.push_parameter.Goals as goal

pub returns : goal.returns
returns c = search parameter_pushed
