use Rattle.drawing.proofs.Columns.{columns_clipped}
use Rattle.drawing.proofs.clip.clip_columns.Goals as goal

pub returns : goal.returns
returns c = search columns_clipped
