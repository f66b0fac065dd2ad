use Rattle.text.proofs.WriteCellsCall.{not_cells, too_long, too_short, accepted}
use Rattle.text.proofs.try_write_cells.Goals as goal

pub returns-then-not-are_cells : goal.returns-then-not-are_cells
returns-then-not-are_cells c = search not_cells

pub returns-then-len-gt-LINE_MAX : goal.returns-then-len-gt-LINE_MAX
returns-then-len-gt-LINE_MAX c = search too_long

pub returns-then-out-len : goal.returns-then-out-len
returns-then-out-len c = search too_short

pub returns : goal.returns
returns c = search accepted
