use Rattle.show_io.proofs.Printing.{cell_same, cell_pushed}
use Rattle.show_io.proofs.ansi.push_cell.Goals as goal

pub returns-then-are_same : goal.returns-then-are_same
returns-then-are_same c = search cell_same

pub returns : goal.returns
returns c = search cell_pushed
