use Rattle.unicode_io.specs.Text.{ascii}
use Rattle.unicode_io.specs.Output.Laws.{number_pushed}
use Rattle.unicode_io.proofs.output.push_number.Goals as goal

pub returns : goal.returns
unfolding ascii
returns c = search number_pushed
