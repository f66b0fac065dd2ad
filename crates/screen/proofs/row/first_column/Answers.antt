use Rattle.screen.proofs.Cells.{first_begin, first_turn, first_here, first_zero}
use Rattle.screen.proofs.row.first_column.Goals as goal

pub loop-i-init : goal.loop-i-init
loop-i-init c = search first_begin

pub loop-i-preserved : goal.loop-i-preserved
loop-i-preserved c = search first_turn

pub returns-then-not-is_later : goal.returns-then-not-is_later
returns-then-not-is_later c = search first_here

pub returns : goal.returns
returns c = search first_zero
