use Rattle.show_io.proofs.Pieces.{parting_begins, next_within, next_less, parting_turn, parting_enough, parting_ends}
use Rattle.show_io.proofs.input.with_part.Goals as goal

pub loop-p-init : goal.loop-p-init
loop-p-init c = search parting_begins

pub returns-then-reading-ge-ENOUGH : goal.returns-then-reading-ge-ENOUGH
returns-then-reading-ge-ENOUGH c = search parting_enough

pub slice_bounds-with_piece-end : goal.slice_bounds-with_piece-end
slice_bounds-with_piece-end c = search next_within

pub loop-p-smaller : goal.loop-p-smaller
loop-p-smaller c = search next_less

pub loop-p-preserved : goal.loop-p-preserved
loop-p-preserved c = search parting_turn

pub returns : goal.returns
returns c = search parting_ends
