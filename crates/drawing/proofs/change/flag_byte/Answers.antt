use Rattle.drawing.proofs.Changes.{flag_bits}
use Rattle.drawing.proofs.change.flag_byte.Goals as goal

pub returns : goal.returns
returns c = flag_bits _ _ _ _ _
