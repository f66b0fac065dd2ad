use Rattle.std.proofs.Common.{rules}
use Rattle.unicode_table.specs.Printed.Laws.{placed_begins, placed_turn, printing_begins, printing_fits, rows_less, printing_turn, printing_stops, printing_ends}
use Rattle.unicode_table.proofs.table.print.Goals as goal

pub loop-row-init : goal.loop-row-init
loop-row-init c = (search printing_begins, search placed_begins)

pub overflow_add-i : goal.overflow_add-i
overflow_add-i c = search (rules, printing_fits)

pub loop-row-smaller : goal.loop-row-smaller
loop-row-smaller c = search rows_less

pub loop-row-preserved : goal.loop-row-preserved
loop-row-preserved c = (search printing_turn, search placed_turn)

pub returns-then-not-print_row : goal.returns-then-not-print_row
returns-then-not-print_row c = search printing_stops

pub returns : goal.returns
returns c = search printing_ends
