use Rattle.drawing.proofs.WindowTexts.{long_room}
use Rattle.drawing.proofs.write.push_long.Goals as goal

pub push_shown-requires : goal.push_shown-requires
push_shown-requires c = search long_room
