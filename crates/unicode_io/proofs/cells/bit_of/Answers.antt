use Rattle.unicode_io.specs.Cells.Laws.{bit_fits}
use Rattle.unicode_io.proofs.cells.bit_of.Goals as goal

pub returns : goal.returns
returns c = bit_fits _ c.requires
