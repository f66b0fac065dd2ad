use Rattle.marks.proofs.Composing.{byte_inside, byte_fits}
use Rattle.marks.proofs.drawn.compare_byte.Goals as goal

pub slice_bounds-mark-end : goal.slice_bounds-mark-end
slice_bounds-mark-end c = search byte_inside

pub slice_bounds-compare_both-end-2 : goal.slice_bounds-compare_both-end-2
slice_bounds-compare_both-end-2 c = search byte_fits
