use Rattle.drawing.proofs.WindowTexts.{columns_in_law, columns_out, columns_ready, columns_room, styled_room}
use Rattle.drawing.proofs.state.AttributeState.write_columns.Goals as goal

pub meets-requires : goal.meets-requires
meets-requires c = search columns_room

pub push_truncated-drawn-requires : goal.push_truncated-drawn-requires
push_truncated-drawn-requires c = search columns_ready

pub advance-requires : goal.advance-requires
advance-requires c = search (styled_room, columns_room)

pub returns-then-meets : goal.returns-then-meets
returns-then-meets c = search columns_in_law

pub advance-requires-2 : goal.advance-requires-2
advance-requires-2 c = search columns_room

pub returns : goal.returns
returns c = search columns_out
