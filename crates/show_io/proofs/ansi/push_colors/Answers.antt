use Rattle.show_io.proofs.Parameters.{three}
use Rattle.show_io.proofs.ansi.push_colors.Goals as goal

pub returns : goal.returns
returns c = search three
