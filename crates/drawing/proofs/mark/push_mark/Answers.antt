use Rattle.buffer.specs.Numbers.Laws.{smaller_right}
use Rattle.drawing.proofs.Marks.{mark_empty, mark_part_law}
use Rattle.drawing.proofs.mark.push_mark.Goals as goal

pub returns-then-to-from : goal.returns-then-to-from
returns-then-to-from c = search mark_empty

pub push_mark_bytes-requires : goal.push_mark_bytes-requires
push_mark_bytes-requires c = search smaller_right

pub returns : goal.returns
returns c = search mark_part_law
