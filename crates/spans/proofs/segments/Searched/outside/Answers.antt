use Rattle.spans.proofs.SegmentCursor.{open_ready, open_pending, open_last}
use Rattle.spans.proofs.segments.Searched.outside.Goals as goal

pub convert-o-requires : goal.convert-o-requires
convert-o-requires c = search open_ready

pub returns-then-index-self : goal.returns-then-index-self
returns-then-index-self c = search open_pending

pub returns : goal.returns
returns c = search open_last
