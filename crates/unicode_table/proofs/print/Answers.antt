use Rattle.unicode_table.specs.Printed.Laws.{print_refused, print_table}
use Rattle.unicode_table.proofs.print.Goals as goal

pub returns-in-Err : goal.returns-in-Err
returns-in-Err c = search print_refused

pub returns : goal.returns
returns c = search print_table
