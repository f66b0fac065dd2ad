use Rattle.marks.proofs.Composing.{scalar_inside, scalar_fits}
use Rattle.marks.proofs.drawn.compare_scalar.Goals as goal

pub slice_bounds-mark-end : goal.slice_bounds-mark-end
slice_bounds-mark-end c = search scalar_inside

pub slice_bounds-compare_both-end : goal.slice_bounds-compare_both-end
slice_bounds-compare_both-end c = search scalar_fits
