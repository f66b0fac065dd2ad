use Rattle.show_io.proofs.LineRows.{list_printed, list_refused}
use Rattle.buffer.specs.Numbers.Laws.{smaller_right}
use mathlib.Core.Path.{sym}
use lib.Seq.{length-take-le}
use Rattle.show_io.proofs.lines.print_list.Goals as goal

pub slice_bounds-push_row-end : goal.slice_bounds-push_row-end
slice_bounds-push_row-end c = search smaller_right

pub slice_bounds-push_row-end-2 : goal.slice_bounds-push_row-end-2
slice_bounds-push_row-end-2 c = sym (length-take-le _ _ (search smaller_right))

pub returns-then-t-ne0 : goal.returns-then-t-ne0
returns-then-t-ne0 c = search list_refused

pub returns : goal.returns
returns c = search list_printed
