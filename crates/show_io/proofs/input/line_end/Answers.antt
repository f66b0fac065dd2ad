use Rattle.show_io.proofs.Pieces.{finding_begins, finding_newline, finding_turn, finding_past}
use Rattle.show_io.proofs.input.line_end.Goals as goal

pub loop-i-init : goal.loop-i-init
loop-i-init c = search finding_begins

pub returns-then-part-i-eq10 : goal.returns-then-part-i-eq10
returns-then-part-i-eq10 c = search finding_newline

pub loop-i-preserved : goal.loop-i-preserved
loop-i-preserved c = search finding_turn

pub returns : goal.returns
returns c = search finding_past
