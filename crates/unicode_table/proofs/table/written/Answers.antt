use Rattle.unicode_table.specs.Printed.Laws.{handed_all}
use Rattle.unicode_table.proofs.table.written.Goals as goal

pub returns-then-n-out : goal.returns-then-n-out
returns-then-n-out c = search handed_all
