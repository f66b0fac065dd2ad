use Rattle.drawing.proofs.WindowTexts.{windowed_is}
use Rattle.drawing.proofs.write.Window.clip.Goals as goal

pub returns : goal.returns
returns c = search windowed_is
