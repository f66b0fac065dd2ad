use Rattle.show_io.proofs.Pieces.{not_long}
use Rattle.show_io.proofs.input.is_long.Goals as goal

pub returns : goal.returns
returns c = search not_long
