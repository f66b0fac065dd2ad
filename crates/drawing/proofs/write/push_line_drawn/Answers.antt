use Rattle.drawing.proofs.WindowTexts.{short_room}
use Rattle.drawing.proofs.write.push_line_drawn.Goals as goal

pub push_shown-requires : goal.push_shown-requires
push_shown-requires c = search short_room
