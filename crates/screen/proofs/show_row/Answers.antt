use Rattle.screen.proofs.RowCall.{row_shown}
use Rattle.screen.proofs.show_row.Goals as goal

pub returns : goal.returns
returns c = search row_shown
