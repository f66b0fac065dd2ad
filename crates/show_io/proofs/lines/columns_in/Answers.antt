use Rattle.show_io.proofs.LineRows.{columns_more, columns_less, columns_back, columns_past}
use Rattle.show_io.proofs.lines.columns_in.Goals as goal

pub returns-then-width-end : goal.returns-then-width-end
returns-then-width-end c = search columns_more

pub returns-else-width-end : goal.returns-else-width-end
returns-else-width-end c = search columns_less

pub returns-else-start-end : goal.returns-else-start-end
returns-else-start-end c = search columns_back

pub returns-else-first-rows : goal.returns-else-first-rows
returns-else-first-rows c = search columns_past
