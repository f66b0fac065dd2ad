use Rattle.screen.proofs.Bytes.{row_written}
use Rattle.screen.proofs.output.write_row.Goals as goal

pub returns : goal.returns
returns c = search row_written
