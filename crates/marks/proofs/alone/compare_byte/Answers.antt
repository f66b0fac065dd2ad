use Rattle.marks.proofs.Composing.{byte_inside, byte_fits}
use Rattle.marks.proofs.alone.compare_byte.Goals as goal

pub slice_bounds-mark-end : goal.slice_bounds-mark-end
slice_bounds-mark-end c = search byte_inside

pub slice_bounds-compare_mark-end : goal.slice_bounds-compare_mark-end
slice_bounds-compare_mark-end c = search byte_fits
