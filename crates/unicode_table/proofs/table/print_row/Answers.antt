use Rattle.unicode_table.specs.Printed.Laws.{row_handed}
use Rattle.unicode_table.proofs.table.print_row.Goals as goal

pub returns : goal.returns
returns c = search row_handed
