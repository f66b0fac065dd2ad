use Rattle.screen.proofs.Bytes.{cells_begin, cells_turn, cells_end}
use Rattle.screen.proofs.output.write_cells.Goals as goal

pub loop-i-init : goal.loop-i-init
loop-i-init c = search cells_begin

pub loop-i-preserved : goal.loop-i-preserved
loop-i-preserved c = search cells_turn

pub returns : goal.returns
returns c = search cells_end
