use Rattle.spans.proofs.SegmentCursor.{close_ready, close_pending}
use Rattle.spans.proofs.segments.Searched.inside.Goals as goal

pub convert-o-requires : goal.convert-o-requires
convert-o-requires c = search close_ready

pub returns : goal.returns
returns c = search close_pending
