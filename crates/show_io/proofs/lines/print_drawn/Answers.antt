use Rattle.show_io.proofs.LineRows.{drawn_printed, drawn_refused}
use Rattle.buffer.specs.Numbers.Laws.{smaller_right}
use mathlib.Core.Path.{sym}
use lib.Seq.{length-take-le}
use Rattle.show_io.proofs.lines.print_drawn.Goals as goal

pub slice_bounds-print_list-end : goal.slice_bounds-print_list-end
slice_bounds-print_list-end c = sym (length-take-le _ _ (search smaller_right))

pub returns-then-drawn-ne0 : goal.returns-then-drawn-ne0
returns-then-drawn-ne0 c = search drawn_refused

pub returns : goal.returns
returns c = search drawn_printed
