use Rattle.show_io.proofs.Pieces.{kept_is}
use mathlib.Core.Path.{sym}
use lib.Seq.{length-take-le}
use Rattle.buffer.specs.Numbers.Laws.{smaller_left, smaller_right}
use Rattle.show_io.proofs.input.keep.Goals as goal

pub overflow_sub-line : goal.overflow_sub-line
overflow_sub-line c = search smaller_right

pub slice_bounds-push_elements-end : goal.slice_bounds-push_elements-end
slice_bounds-push_elements-end c = sym (length-take-le _ _ (search smaller_left))

pub returns : goal.returns
returns c = search kept_is
