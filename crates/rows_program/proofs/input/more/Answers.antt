use Rattle.rows_program.proofs.Parts.{part_read}
use Rattle.rows_program.proofs.input.more.Goals as goal

pub returns : goal.returns
returns g c = search part_read
