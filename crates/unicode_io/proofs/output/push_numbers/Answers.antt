use Rattle.unicode_io.specs.Output.Laws.{numbers_pushed}
use Rattle.unicode_io.proofs.output.push_numbers.Goals as goal

pub returns : goal.returns
returns c = search numbers_pushed
