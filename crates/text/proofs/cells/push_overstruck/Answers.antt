use Rattle.text.proofs.CellLoops.{push_normal, push_bold, push_underline, push_both}
use Rattle.text.proofs.cells.push_overstruck.Goals as goal

pub returns-in-0 : goal.returns-in-0
returns-in-0 c = search push_normal

pub returns-in-1 : goal.returns-in-1
returns-in-1 c = search push_bold

pub returns-in-2 : goal.returns-in-2
returns-in-2 c = search push_underline

pub returns-in_default : goal.returns-in_default
returns-in_default c = search push_both
