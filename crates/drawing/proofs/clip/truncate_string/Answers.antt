use Rattle.drawing.proofs.Clipping.{clip_whole, clip_cut, clip_ready}
use Rattle.drawing.proofs.clip.truncate_string.Goals as goal

pub returns-then-offset-whole : goal.returns-then-offset-whole
returns-then-offset-whole c = search clip_whole

pub clip_columns-requires : goal.clip_columns-requires
clip_columns-requires c = search clip_ready

pub returns : goal.returns
returns c = search clip_cut
