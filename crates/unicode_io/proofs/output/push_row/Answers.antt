use Rattle.unicode_io.specs.Output.Laws.{row_pushed}
use Rattle.unicode_io.proofs.output.push_row.Goals as goal

pub returns : goal.returns
returns c = search row_pushed
