use Rattle.spans.proofs.SegmentCursor.{begin_opens, begin_done}
use Rattle.spans.proofs.segments.Records.begin.Goals as goal

pub outside-requires : goal.outside-requires
outside-requires c = search begin_opens

pub returns : goal.returns
returns c = record { same = begin_done _ _ _ _ c.outside.ensures; ready = c.outside.ensures.sound }
