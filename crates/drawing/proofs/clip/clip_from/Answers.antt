use Rattle.drawing.proofs.Clipping.{clip_there}
use Rattle.drawing.proofs.clip.clip_from.Goals as goal

pub returns : goal.returns
returns c = search clip_there
