use Rattle.drawing.proofs.Marks.{scalar_room, scalar_wrote}
use Rattle.drawing.proofs.state.AttributeState.write_scalar_mark.Goals as goal

pub write_mark-requires : goal.write_mark-requires
write_mark-requires c = search scalar_room

pub returns : goal.returns
returns c = search scalar_wrote
