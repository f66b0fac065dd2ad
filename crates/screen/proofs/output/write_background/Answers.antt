use Rattle.screen.proofs.Bytes.{background_written}
use Rattle.screen.proofs.output.write_background.Goals as goal

pub returns : goal.returns
returns c = search background_written
