use Rattle.std.proofs.Common.{rules}
use Rattle.rows_io.proofs.LineBuffer.{part_within, part_pushed}
use Rattle.rows_io.proofs.input.with_part.Goals as goal

pub slice_bounds-push_elements-count : goal.slice_bounds-push_elements-count
slice_bounds-push_elements-count c = search part_within

pub slice_bounds-push_elements-start : goal.slice_bounds-push_elements-start
slice_bounds-push_elements-start c = search part_within

pub returns : goal.returns
returns c = part_pushed c.args.state _ _ _ c.read_part-p.result c.push_elements-end.result c.min.result c.read_part-p.ensures c.push_elements-end.ensures (search rules) c.min.ensures
