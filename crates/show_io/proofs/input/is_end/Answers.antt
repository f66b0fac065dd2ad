use Rattle.show_io.proofs.Pieces.{not_end}
use Rattle.show_io.proofs.input.is_end.Goals as goal

pub returns-then-piece-eq0 : goal.returns-then-piece-eq0
returns-then-piece-eq0 c = search not_end
