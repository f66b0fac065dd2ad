use Rattle.drawing.proofs.WindowTexts.{text_drawn, torn_drawn}
use Rattle.drawing.proofs.write.push_truncated.Goals as goal

pub returns-in-Some : goal.returns-in-Some
returns-in-Some c = search (text_drawn, c.in-Some.ensures)

pub returns-in-None : goal.returns-in-None
returns-in-None c = search (torn_drawn, c.in-None.ensures)
