use Rattle.drawing.proofs.WindowTexts.{write_in, write_out, styled_room, measured_room}
use Rattle.drawing.proofs.state.AttributeState.write_truncated.Goals as goal

pub advance-requires : goal.advance-requires
advance-requires c = search (styled_room, measured_room)

pub returns-then-meets : goal.returns-then-meets
returns-then-meets c = search write_in

pub returns : goal.returns
returns c = search write_out
