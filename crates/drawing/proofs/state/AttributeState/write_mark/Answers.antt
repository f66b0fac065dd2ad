use Rattle.std.proofs.Common.{rules}
use Rattle.drawing.proofs.WindowTexts.{styled_room}
use Rattle.drawing.proofs.Marks.{mark_in, mark_out}
use Rattle.drawing.proofs.state.AttributeState.write_mark.Goals as goal

pub advance-requires : goal.advance-requires
advance-requires c = search (rules, styled_room)

pub returns-then-meets : goal.returns-then-meets
returns-then-meets c = search mark_in

pub returns : goal.returns
returns c = search mark_out
