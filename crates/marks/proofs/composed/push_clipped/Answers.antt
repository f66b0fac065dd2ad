use Rattle.marks.proofs.Composing.{part_inside, part_pushed}
use Rattle.std.proofs.Common.{rules}
use Rattle.marks.proofs.composed.push_clipped.Goals as goal

pub overflow_add-t : goal.overflow_add-t
overflow_add-t c = search (rules, part_inside)

pub slice_bounds-push_change-count : goal.slice_bounds-push_change-count
slice_bounds-push_change-count c = search (rules, part_inside)

pub slice_bounds-push_change-start : goal.slice_bounds-push_change-start
slice_bounds-push_change-start c = search (rules, part_inside)

pub slice_bounds-push_change-end : goal.slice_bounds-push_change-end
slice_bounds-push_change-end c = search (rules, part_inside)

pub returns : goal.returns
returns c = search part_pushed
