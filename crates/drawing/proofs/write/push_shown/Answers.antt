use Rattle.drawing.proofs.WindowTexts.{shown_drawn}
use Rattle.drawing.proofs.write.push_shown.Goals as goal

pub returns : goal.returns
returns c = search shown_drawn
