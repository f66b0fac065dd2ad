use Rattle.show_io.proofs.Pieces.{last_none, last_line}
use mathlib.Core.Path.{sym}
use lib.Seq.{length-take-le}
use Rattle.buffer.specs.Numbers.Laws.{smaller_right}
use Rattle.show_io.proofs.input.with_last.Goals as goal

pub returns-then-state-eq0 : goal.returns-then-state-eq0
returns-then-state-eq0 c = search last_none

pub slice_bounds-push_line-end : goal.slice_bounds-push_line-end
slice_bounds-push_line-end c = sym (length-take-le _ _ (search smaller_right))

pub returns : goal.returns
returns c = search last_line
