use Rattle.screen.proofs.Cells.{fill_begin, fill_turn, fill_end}
use Rattle.screen.proofs.row.fill.Goals as goal

pub loop-i-init : goal.loop-i-init
loop-i-init c = search fill_begin

pub loop-i-preserved : goal.loop-i-preserved
loop-i-preserved c = search fill_turn

pub returns : goal.returns
returns c = search fill_end
