use Rattle.std.proofs.Common.{rules}
use Rattle.show_io.proofs.SpanText.{part_pushed}
use Rattle.buffer.specs.Numbers.Laws.{smaller_right}
use Rattle.buffer.specs.Numbers.Parts.{part_within, part_fits}
use Rattle.show_io.proofs.span_text.push_part.Goals as goal

pub overflow_sub-conv : goal.overflow_sub-conv
overflow_sub-conv c = search smaller_right

pub overflow_add-from : goal.overflow_add-from
overflow_add-from c = search (rules, part_fits)

pub slice_bounds-push_shown-end : goal.slice_bounds-push_shown-end
slice_bounds-push_shown-end c = search part_within

pub returns : goal.returns
returns c = search part_pushed
