use Rattle.drawing.proofs.WindowTexts.{part_drawn, part_own}
use Rattle.drawing.proofs.write.push_part.Goals as goal

pub returns-then-drawing : goal.returns-then-drawing
returns-then-drawing c = search part_drawn

pub returns : goal.returns
returns c = search part_own
